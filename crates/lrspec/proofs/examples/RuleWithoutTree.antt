-- a rule that has no tree
use Rattle.std.proofs.Common.{◌≡◌, ℕ, zero, suc, List, [], ◌∷◌, refl, arith}
use Rattle.lrspec.specs.grammars.Grammar.{Symbol, Rule, Token, body_of, IsProductionOf}
use Rattle.lrspec.specs.grammars.Trees as trees
use Rattle.lrspec.specs.grammars.Trees.{Tree, Forest, IsTree, IsForest}
use Rattle.lrspec.specs.tables.Recognition.{HasTrees}
use Rattle.lrspec.specs.examples.ExampleGrammars.{rule_without_tree}

-- the one body of B is `B 'b'`
body_of_b : (p r : ℕ) → IsProductionOf rule_without_tree p r → r ≡ 3 → body_of rule_without_tree p ≡ Rule 3 ∷ Token 2 ∷ []
body_of_b zero r i e = absurd (omega arith)
body_of_b (suc zero) r i e = absurd (omega arith)
body_of_b (suc (suc zero)) r i e = absurd (omega arith)
body_of_b (suc (suc (suc zero))) r i e = absurd (omega arith)
body_of_b (suc (suc (suc (suc zero)))) r i e = refl
body_of_b (suc (suc (suc (suc (suc zero))))) r i e = absurd (omega arith)
body_of_b (suc (suc (suc (suc (suc (suc p)))))) r i e = absurd i

-- so a tree for B would hold a smaller one
mutual
  no_tree_by : {x : Symbol} {t : Tree} → IsTree rule_without_tree x t → x ≡ Rule 3 → ⊥
  no_tree_by trees.IsTree.token e = cc
  no_tree_by (trees.IsTree.production {p = p} {r = r} i f) e = let rule : r ≡ 3 = cc in no_forest_by f (body_of_b p r i rule)

  no_forest_by : {xs : List Symbol} {ts : Forest} → IsForest rule_without_tree xs ts → xs ≡ Rule 3 ∷ Token 2 ∷ [] → ⊥
  no_forest_by trees.IsForest.bare e = cc
  no_forest_by (trees.IsForest.and {x = x} t ts) e = let first : x ≡ Rule 3 = cc in no_tree_by t first

-- the rule B of `S: A B | 'c'; A: 'a' | 'a'; B: B 'b';` has no tree
pub no_tree_for_b : (t : Tree) → IsTree rule_without_tree (Rule 3) t → ⊥
no_tree_for_b t k = no_tree_by k refl

-- so not every rule of that grammar has one
pub without_trees : HasTrees rule_without_tree → ⊥
without_trees h = let (t, k) = h 3 (omega arith) in no_tree_for_b t k
