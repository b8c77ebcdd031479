use Rattle.std.proofs.Common.{◌++◌, ap, ◌∙◌}
use Rattle.lrshown.specs.Steps.{moves_by}
use Rattle.lrtree.specs.StoredTrees.{tree_of}
use Rattle.lrparsing.proofs.VisitMoves.{moves_among, moves_are_of}
use Rattle.lrparsing.proofs.steps.steps_of_tree.Goals as goal

pub loop-visits-init : goal.loop-visits-init
loop-visits-init c =
    ap (λ l. moves_by l ++ moves_among c.visits-visits.result) c.new-steps.ensures.items
    ∙ ap moves_among c.visits-visits.ensures ∙ moves_are_of (tree_of (λ n. n) c.args.tree.now)
