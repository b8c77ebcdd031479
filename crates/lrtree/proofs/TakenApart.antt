-- what taking stored trees apart leaves
use Rattle.std.proofs.Common.{◌≡◌, ◌≢◌, ℕ, ◌<◌, List, [], ◌∷◌, ◌++◌, length, get_or, set, Vec, Global, refl, sym, ap, ◌∙◌, subst, arith}
use Rattle.lrgrammar.specs.declared.idx.PIdx.{PIdx}
use Rattle.lrspec.specs.grammars.Trees as math
use Rattle.lrspec.specs.grammars.Trees.{Forest, Bare, And, joined}
use Rattle.lrtree.specs.declared.trees.Tree.{Tree}
use Rattle.lrtree.specs.declared.trees.Tree.TheViews.{Node}
use Rattle.lrtree.specs.StoredTrees.{tree_of, forest_of}
use Rattle.lrtree.specs.Weights.{row_weight}
use Rattle.lrtree.proofs.FoldedTrees.{tree_of_node}
use Rattle.lrtree.proofs.WeightFacts.{lighter_without, lighter_moved}

module _ {T : Type 0} (number : T → ℕ) where
  -- a tree behind others
  one_more : (xs : List (Tree T)) (x : Tree T) → forest_of number (xs ++ x ∷ []) ≡ joined (forest_of number xs) (And (tree_of number x) Bare)
  one_more [] x = refl
  one_more (y ∷ ys) x = ap (λ ts. And (tree_of number y) ts) (one_more ys x)

  -- trees that there are are some
  some_trees : (xs : List (Tree T)) → 0 < length xs → forest_of number xs ≢ Bare
  some_trees [] l = absurd (omega arith)
  some_trees (x ∷ xs) l = λ e. cc

  -- without the last tree the others weigh less
  pub lighter_popped :
      (all others : List (Tree T)) (last : Tree T) → all ≡ others ++ last ∷ []
      → row_weight (forest_of number others) < row_weight (forest_of number all)
  lighter_popped all others last e =
      subst (λ ts. row_weight (forest_of number others) < row_weight ts) (sym (ap (forest_of number) e ∙ one_more others last))
      (lighter_without (forest_of number others) (tree_of number last))

  -- the last tree is this node
  pub last_node :
      (all others : List (Tree T)) (last : Tree T) (p : PIdx T) (children : Vec (Tree T) Global) → all ≡ others ++ last ∷ [] → last ≡ Node p children
      → forest_of number all ≡ joined (forest_of number others) (And (math.Node (number p.0) (forest_of number children.items)) Bare)
  last_node all others last p children e node =
      ap (forest_of number) e ∙ one_more others last
      ∙ ap (λ t. joined (forest_of number others) (And t Bare)) (ap (tree_of number) node ∙ tree_of_node number p children)

  -- with the others behind a node in the place of its first child, the children weigh less than all the trees
  pub lighter_both :
      (left children : List (Tree T)) (p : PIdx T) (first hollow : Tree T) (stacked : Vec (Tree T) Global) → 0 < length left → 0 < length children
      → first ≡ get_or children 0 first → stacked.items ≡ left ++ first ∷ []
      → row_weight (forest_of number (set (set children 0 hollow) 0 (Node p stacked)))
      < row_weight (joined (forest_of number left) (And (math.Node (number p.0) (forest_of number children)) Bare))
  lighter_both left [] p first hollow stacked some there is pushed = absurd (omega arith)
  lighter_both left (u ∷ us) p first hollow stacked some there is pushed =
      let n = number p.0 in
      let ts = forest_of number left in
      let node : tree_of number (Node p stacked) ≡ math.Node n (joined ts (And (tree_of number u) Bare)) =
      tree_of_node number p stacked ∙ ap (λ l. math.Node n (forest_of number l)) pushed
      ∙ ap (math.Node n) (one_more left first ∙ ap (λ t. joined ts (And (tree_of number t) Bare)) is) in
      subst (λ t. row_weight (And t (forest_of number us)) < row_weight (joined ts (And (math.Node n (forest_of number (u ∷ us))) Bare))) (sym node)
      (lighter_moved ts n (tree_of number u) (forest_of number us) (some_trees left some))
