-- The bits of nullable rules while they grow.
use Rattle.std.specs.Prelude.{ℕ, ◌<◌, Bool, true, false, ◌&&◌, IsTrue, List, [], ◌∷◌}
use Rattle.lrspec.specs.grammars.Grammar.{Symbol, Rule, Token, Grammar, body_of, IsProductionOf}
use Rattle.lrspec.specs.grammars.First.{Nullable}
use Rattle.lrbits.specs.Bits.{bit}

-- each symbol is a rule whose bit is set
abbrev pub all_set : List Bool → List Symbol → Bool
all_set v [] = true
all_set v (Rule r ∷ y) = bit v r && all_set v y
all_set v (Token t ∷ y) = false

-- each set bit is a nullable rule's
abbrev pub HoldsNullable : Grammar → List Bool → Type 0
HoldsNullable g v = (r : ℕ) → IsTrue (bit v r) → Nullable g r

-- each rule with a body of set bits has its own bit set, for the productions below `n`
abbrev pub IsClosedUnderBodiesBelow : Grammar → List Bool → ℕ → Type 0
IsClosedUnderBodiesBelow g v n =
    (p r : ℕ) → p < n → IsProductionOf g p r → IsTrue (all_set v (body_of g p)) → IsTrue (bit v r)

-- the same for all productions
abbrev pub IsClosedUnderBodies : Grammar → List Bool → Type 0
IsClosedUnderBodies g v =
    (p r : ℕ) → IsProductionOf g p r → IsTrue (all_set v (body_of g p)) → IsTrue (bit v r)
