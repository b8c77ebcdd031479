-- what a stored token is as a plain tree
use Rattle.std.proofs.Common.{◌≡◌, ℕ}
use Rattle.lrgrammar.specs.declared.idx.TIdx.{TIdx}
use Rattle.lrspec.specs.grammars.Trees as math
use Rattle.lrtree.specs.declared.trees.Tree.{Token}
use Rattle.lrtree.specs.declared.trees.Tree.TheViews.{roll-Tree}
use Rattle.lrtree.specs.StoredTrees.{tree_of}
use Rattle.lrtree.proofs.FoldedTrees.{tree_of_token}

module _ {T : Type 0} (number : T → ℕ) where
  -- a token is a leaf
  pub leaf_of_token : (t : TIdx T) → tree_of number (Token t) ≡ math.Leaf (number t.0)
  unfolding roll-Tree denote.Hole.Carrier.roll
  leaf_of_token t = tree_of_token number t
