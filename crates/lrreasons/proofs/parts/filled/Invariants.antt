-- the moves so far
use Rattle.std.proofs.Common.{take}
use Rattle.lrconflicts.specs.StoredMoves.{moves_stored}
use Rattle.lrgrammar.specs.Symbols.{number_of}
use Rattle.lrreasons.specs.Parts.{HasFilled}
use Rattle.lrreasons.proofs.parts.filled.Given as goal

abbrev pub invariant-loop-action : goal.invariant-loop-action
invariant-loop-action l = HasFilled l.texts (moves_stored number_of (take l.action-index l.moves)) l.filling
