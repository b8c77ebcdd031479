-- the next token begins the symbols of a forest, or they are nullable
use Rattle.std.proofs.Common.{◌≡◌, ℕ, List, [], ◌∷◌, ◌++◌, refl, append_assoc, ◌⊎◌, inl, inr}
use Rattle.lrspec.specs.grammars.Grammar.{Symbol, Rule, Grammar, body_of, rest, IsProductionOf}
use Rattle.lrspec.specs.grammars.First.{AllNullable, Begins, here, inside, past, by_body}
use Rattle.lrspec.specs.grammars.First as first
use Rattle.lrspec.specs.grammars.CanonicalItems as item
use Rattle.lrspec.specs.grammars.CanonicalItems.{Looks}
use Rattle.lrspec.specs.tables.Machine.{next_token}
use Rattle.lrspec.specs.grammars.Trees.{Forest, forest_leaves, IsForest, token, production, bare, and}
use Rattle.lrspec.proofs.grammars.CanonicalItemFacts.{stands_of_looks}

-- the next token begins the symbols, or they are nullable and have no leaf
abbrev BeginsOrNone : Grammar → List Symbol → List ℕ → List ℕ → Type 0
BeginsOrNone g y us v = Begins g y (next_token g (us ++ v)) ⊎ (AllNullable g y × (us ≡ []))

-- a node before the rest of a forest
under_node :
    {g : Grammar} {r : ℕ} {y : List Symbol} (p : ℕ) → IsProductionOf g p r → (us ts v : List ℕ) → BeginsOrNone g (body_of g p) us (ts ++ v)
    → BeginsOrNone g y ts v → BeginsOrNone g (Rule r ∷ y) (us ++ ts) v
under_node p h us ts v (inl b) k = inl (inside p h (rw append_assoc b))
under_node p h us ts v (inr n) (inl b) = inl (past (by_body p h n.0) (rw n.1 b))
under_node p h us ts v (inr n) (inr m) = inr (first.AllNullable.more (by_body p h n.0) m.0, rw n.1 m.1)

-- the first leaf of a forest begins its symbols, or there is none and they are nullable
pub forest_begins : {g : Grammar} {y : List Symbol} {ts : Forest} (v : List ℕ) → IsForest g y ts → BeginsOrNone g y (forest_leaves ts) v
forest_begins v bare = inr (first.AllNullable.none, refl)
forest_begins v (and token f) = inl here
forest_begins v (and {ts = ts} (production {p = p} {ts = us} h i) f) =
    under_node p h (forest_leaves us) (forest_leaves ts) v (forest_begins (forest_leaves ts ++ v) i) (forest_begins v f)

-- the productions of a rule look at what follows the rule, if the item before it looks at what follows its body
pub child_looks :
    {g : Grammar} {w : List Symbol} {p d q r : ℕ} {y : List Symbol} {ts : Forest} (v : List ℕ) → Looks g w p d (next_token g v)
    → rest g p d ≡ Rule r ∷ y → IsProductionOf g q r → IsForest g y ts → Looks g w q 0 (next_token g (forest_leaves ts ++ v))
child_looks v l e h f = elim (forest_begins v f) [
  | inl b ↦ item.Looks.expand (stands_of_looks l) e h b
  | inr n ↦ rw n.1 (item.Looks.inherit l e h n.0)
]
