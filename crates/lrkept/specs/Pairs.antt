-- rules with those that they derive alone, as pairs of numbers
use Rattle.std.specs.Prelude.{◌≡◌, ℕ, ◌+◌, ◌<◌, ◌≤◌, List, [], ◌∷◌, ◌++◌, length, take, drop, Contains, ◌↔◌, ◌⊎◌}
use Rattle.lrspec.specs.grammars.Grammar.{Symbol, Rule, Grammar, body_of, IsProductionOf}
use Rattle.lrspec.specs.grammars.First.{AllNullable}
use Rattle.lrkept.specs.Acyclicity.{HasAlone}

-- the rule stands at the place in the symbols, and nullable rules before it and behind it
pub record StandsAlone (g : Grammar) (symbols : List Symbol) (place rule : ℕ) : Type 0 where
  pub there : drop place symbols ≡ Rule rule ∷ drop (place + 1) symbols
  pub null_before : AllNullable g (take place symbols)
  pub null_behind : AllNullable g (drop (place + 1) symbols)

-- the first of each pair derives the second alone in one step
abbrev pub AreAlone : Grammar → List (ℕ × ℕ) → Type 0
AreAlone g pairs = (r s : ℕ) → Contains pairs (r, s) → HasAlone g r s

-- the rule of the production is paired with each rule that stands alone in its body
abbrev pub HasAloneOf : Grammar → ℕ → List (ℕ × ℕ) → Type 0
HasAloneOf g p pairs =
    (r place s : ℕ) → IsProductionOf g p r → StandsAlone g (body_of g p) place s
    → Contains pairs (r, s)

-- the pairs that were listed are listed
abbrev pub KeepsPairs : List (ℕ × ℕ) → List (ℕ × ℕ) → Type 0
KeepsPairs old new = (r s : ℕ) → Contains old (r, s) → Contains new (r, s)

-- the rule is paired with the one that stands alone at the place, if one does
abbrev pub IsAddedAt :
    Grammar → List Symbol → ℕ → ℕ → List (ℕ × ℕ) → List (ℕ × ℕ) → Type 0
IsAddedAt g symbols place rule old new =
    ((s : ℕ) × StandsAlone g symbols place s × (new ≡ old ++ (rule, s) ∷ []))
    ⊎ (((s : ℕ) → ¬ (StandsAlone g symbols place s)) × (new ≡ old))

-- these are all rules with those that they derive alone in one step
abbrev pub ArePairsOf : Grammar → List (ℕ × ℕ) → Type 0
ArePairsOf g pairs = (r s : ℕ) → Contains pairs (r, s) ↔ HasAlone g r s

-- a pair leads from the number to one of the others
abbrev pub LeadsInto : List (ℕ × ℕ) → ℕ → List ℕ → Type 0
LeadsInto pairs n numbers = (m : ℕ) × Contains pairs (n, m) × Contains numbers m

-- the number is put behind those that are left if a pair leads from it to one of the others
abbrev pub IsLeftIf :
    List (ℕ × ℕ) → ℕ → List ℕ → List ℕ → List ℕ → Type 0
IsLeftIf pairs n numbers old new =
    (LeadsInto pairs n numbers × (new ≡ old ++ n ∷ []))
    ⊎ (¬ (LeadsInto pairs n numbers) × (new ≡ old))

-- those of the numbers are left from which a pair leads to one of them
pub record AreLeft (pairs : List (ℕ × ℕ)) (numbers left : List ℕ) : Type 0 where
  -- what is not left has no such pair
  pub gone : (n : ℕ) → Contains numbers n → Contains left n ⊎ ¬ (LeadsInto pairs n numbers)
  -- and nothing else is left
  pub within : (n : ℕ) → Contains left n → Contains numbers n
  -- where as many are left as there were, each has such a pair
  pub fewer : length left ≤ length numbers
  pub stuck : length left ≡ length numbers → (n : ℕ) → Contains numbers n → LeadsInto pairs n numbers

-- numbers have ranks below a bound that fall along the pairs
abbrev pub CanBeRanked : List (ℕ × ℕ) → Type 0
CanBeRanked pairs =
    (bound : ℕ) × (rank : ℕ → ℕ) × ((n : ℕ) → rank n < bound)
    × ((n m : ℕ) → Contains pairs (n, m) → rank m < rank n)

-- pairs lead from numbers below the count alone
abbrev pub LeadFromBelow : List (ℕ × ℕ) → ℕ → Type 0
LeadFromBelow pairs count = (n m : ℕ) → Contains pairs (n, m) → n < count
