-- items that stand in one another
use Rattle.std.specs.Prelude.{◌≡◌, ℕ, ◌≤◌, List, [], ◌∷◌, ◌++◌, length, take}
use Rattle.lrspec.specs.grammars.Grammar.{Symbol, Rule, Grammar, body_of, rest, IsProductionOf}

-- the items stand in one another, the outermost first, with the symbols of the list before their dots: the first is of the
-- start production, and each further one of a production of the rule behind the dot of the one before it
pub data Nests (g : Grammar) : List (ℕ × ℕ) → List Symbol → Type 0 where
  start :
      (d : ℕ) → d ≤ length (body_of g g.start_production)
      → Nests g ((g.start_production, d) ∷ []) (take d (body_of g g.start_production))
  inside :
      (is : List (ℕ × ℕ)) {w : List Symbol} (p d q e r : ℕ) (y : List Symbol)
      → Nests g (is ++ (p, d) ∷ []) w
      → rest g p d ≡ Rule r ∷ y → IsProductionOf g q r → e ≤ length (body_of g q)
      → Nests g ((is ++ (p, d) ∷ []) ++ (q, e) ∷ []) (w ++ take e (body_of g q))
