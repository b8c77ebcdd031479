use Rattle.std.proofs.Common.{◌≡◌, ◌++◌, length}
use Rattle.lrconflicts.specs.Moves.{moves_of}
use Rattle.lrshown.specs.Steps.{moves_by}
use Rattle.lrtree.specs.StoredTrees.{tree_of}
use Rattle.lrparsing.proofs.VisitMoves.{moves_among}
use Rattle.lrparsing.proofs.steps.steps_of_tree.Given as goal

abbrev pub invariant-loop-visits : goal.invariant-loop-visits
invariant-loop-visits l = moves_by l.steps.items ++ moves_among l.visits ≡ moves_of (tree_of (λ n. n) l.tree)

abbrev pub decreases-loop-visits : goal.decreases-loop-visits
decreases-loop-visits l = length l.visits
