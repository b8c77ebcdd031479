-- the set has those of the resolutions so far
use Rattle.lrfindings.proofs.TakenShifts.{AreTaken}
use Rattle.lrfindings.proofs.reached.taken_away.Given as goal

abbrev pub invariant-loop-one : goal.invariant-loop-one
invariant-loop-one l = AreTaken l.resolved l.one-index l.cells
