-- what the symbols behind a rule are to a token
use Rattle.std.specs.Prelude.{◌≡◌, ℕ, Bool, true, false, List, [], ◌∷◌, ◌++◌}
use Rattle.lrspec.specs.grammars.Grammar.{Symbol, Rule, Grammar, rest}
use Rattle.lrspec.specs.grammars.First as first
use Rattle.lrsearches.specs.Searches.{Need, Met, Look}
use Rattle.lrsearches.specs.declared.rests.Rest.{Rest}
use Rattle.lrsearches.specs.declared.rests.Rest.TheVariants.{Begins, Nullable, Neither}

-- they can begin with it; or they cannot, and are nullable; or neither
abbrev pub IsRest : Grammar → List Symbol → ℕ → Rest → Type 0
IsRest g y t Begins = first.Begins g y t
IsRest g y t Nullable = (first.Begins g y t → ⊥) × first.AllNullable g y
IsRest g y t Neither = (first.Begins g y t → ⊥) × (first.AllNullable g y → ⊥)

-- the item stands before the rule, with these symbols behind it
abbrev pub HasBehind : Grammar → ℕ → ℕ → ℕ → List Symbol → Type 0
HasBehind g p d r y = rest g p d ≡ Rule r ∷ y

-- what the symbols behind the rule are, where the item stands before it; neither where it does not
abbrev pub IsRestBehind : Grammar → ℕ → ℕ → ℕ → ℕ → Rest → Type 0
IsRestBehind g p d r t Begins = (y : List Symbol) × HasBehind g p d r y × IsRest g y t Begins
IsRestBehind g p d r t Nullable = (y : List Symbol) × HasBehind g p d r y × IsRest g y t Nullable
IsRestBehind g p d r t Neither = (y : List Symbol) → HasBehind g p d r y → IsRest g y t Neither

-- what closes the need of a production of the rule: the item adds itself where it looks at the token,
-- as `look` tells, and the symbols behind the rule are nullable; where these can begin with the token
-- nothing more is needed, and the answer is true
pub data IsClosedBy (g : Grammar) (p d r t : ℕ) (look : Bool) (old : List Need)
    : List Need → Bool → Type 0 where
  begins : IsRestBehind g p d r t Begins → IsClosedBy g p d r t look old (Met ∷ []) true
  looks :
      IsRestBehind g p d r t Nullable → look ≡ true
      → IsClosedBy g p d r t look old (old ++ Look p d ∷ []) false
  blind : IsRestBehind g p d r t Nullable → look ≡ false → IsClosedBy g p d r t look old old false
  neither : IsRestBehind g p d r t Neither → IsClosedBy g p d r t look old old false
