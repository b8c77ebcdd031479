-- what a stored token and a stored node are as plain trees
use Rattle.std.proofs.Common.{◌≡◌, ℕ, Vec, Global}
use Rattle.lrgrammar.specs.declared.idx.PIdx.{PIdx}
use Rattle.lrgrammar.specs.declared.idx.TIdx.{TIdx}
use Rattle.lrspec.specs.grammars.Trees as math
use Rattle.lrtree.specs.declared.trees.Tree.{Tree}
use Rattle.lrtree.specs.declared.trees.Tree.TheOpen as level
use Rattle.lrtree.specs.declared.trees.Tree.TheViews.{roll-Tree, Node}
use Rattle.lrtree.specs.declared.trees.Tree.TheFolds.{fold-roll-Tree}
use Rattle.lrtree.specs.StoredTrees.{tree_step, tree_of, forest_of}

module _ {T : Type 0} (number : T → ℕ) where
  -- a token is a leaf
  pub tree_of_token : (t : TIdx T) → tree_of number (roll-Tree T (level.Token t)) ≡ math.Leaf (number t.0)
  tree_of_token t = fold-roll-Tree T math.Tree (tree_step number) (level.Token t)

  -- a node is a node over its children
  pub tree_of_node : (p : PIdx T) (v : Vec (Tree T) Global) → tree_of number (Node p v) ≡ math.Node (number p.0) (forest_of number v.items)
  unfolding roll-Tree denote.Hole.Carrier.roll
  tree_of_node p v = fold-roll-Tree T math.Tree (tree_step number) (level.Node p v)
