-- the reductions by the complete items so far are listed
use Rattle.std.proofs.Common.{drop}
use Rattle.lrconflicts.specs.StoredMoves.{moves_stored}
use Rattle.lrgrammar.specs.Symbols.{number_of}
use Rattle.lrdecided.specs.Contenders.{completes_of}
use Rattle.lrdecided.proofs.FoundContenders.{HasReductionsBut}
use Rattle.lrdecided.proofs.contending.reductions.Given as goal

abbrev pub invariant-loop-complete : goal.invariant-loop-complete
invariant-loop-complete l =
    HasReductionsBut (completes_of l.completes) (completes_of (drop l.complete-index l.completes)) l.token.0 (moves_stored number_of l.moves.items)
