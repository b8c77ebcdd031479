-- those so far
use Rattle.std.proofs.Common.{◌≡◌, take}
use Rattle.lrconflicts.specs.StoredMoves.{moves_stored}
use Rattle.lrgrammar.specs.Symbols.{number_of}
use Rattle.lrshown.specs.Steps.{moves_by}
use Rattle.lrshown.proofs.steps.steps_of.Given as goal

abbrev pub invariant-loop-action : goal.invariant-loop-action
invariant-loop-action l = moves_by l.steps.items ≡ moves_stored number_of (take l.action-index l.moves)
