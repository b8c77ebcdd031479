use Rattle.lrtree.specs.StoredTrees.{forest_of}
use Rattle.lrtree.specs.Weights.{row_weight}
use Rattle.lrtree.proofs.trees.Tree.take_apart.Given as goal

abbrev pub decreases-loop-tree : goal.decreases-loop-tree
decreases-loop-tree g l = row_weight (forest_of g.T.IndexStorage.number l.left.items)
