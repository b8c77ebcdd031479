use Rattle.std.proofs.Common.{length, ap, ◌∙◌}
use Rattle.lrtree.specs.StoredTrees.{tree_of}
use Rattle.lrexamples.proofs.DeepestNodes.{deepest, walk_depth}
use Rattle.lrexamples.proofs.depths.depth.Goals as goal

pub loop-visits-init : goal.loop-visits-init
loop-visits-init g c =
    ap (λ nodes. deepest (length nodes) 0 c.visits-visits.result) c.new-open.ensures.items
    ∙ ap (deepest 0 0) c.visits-visits.ensures
    ∙ walk_depth (tree_of g.T.IndexStorage.number c.args.tree.now)
