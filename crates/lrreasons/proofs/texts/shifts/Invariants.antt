use Rattle.std.proofs.Common.{◌≡◌, take}
use Rattle.lrconflicts.specs.StoredMoves.{moves_stored}
use Rattle.lrreasons.specs.Texts as told
use Rattle.lrgrammar.specs.Symbols.{number_of}
use Rattle.lrreasons.proofs.texts.shifts.Given as goal

abbrev pub invariant-loop-action : goal.invariant-loop-action
invariant-loop-action l = l.shifts ≡ told.shifts (moves_stored number_of (take l.action-index l.moves))
