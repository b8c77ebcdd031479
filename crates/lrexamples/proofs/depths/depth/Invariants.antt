-- what is left comes as deep as the tree is
use Rattle.std.proofs.Common.{◌≡◌, length}
use Rattle.lrtree.specs.StoredTrees.{tree_of}
use Rattle.lrexamples.specs.Depths.{depth}
use Rattle.lrexamples.proofs.DeepestNodes.{deepest}
use Rattle.lrexamples.proofs.depths.depth.Given as goal

abbrev pub invariant-loop-visits : goal.invariant-loop-visits
invariant-loop-visits g l = deepest (length l.open.items) l.deepest l.visits ≡ depth (tree_of g.T.IndexStorage.number l.tree)

abbrev pub decreases-loop-visits : goal.decreases-loop-visits
decreases-loop-visits g l = length l.visits
