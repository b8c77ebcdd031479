use Rattle.std.proofs.Common.{ℕ, length}
use Rattle.lrdiagnostics.specs.Positions.{EndsBefore}
use Rattle.lrdiagnostics.proofs.columns.column_of.Given as goal

abbrev pub invariant-loop-others : goal.invariant-loop-others
invariant-loop-others l = (behind : ℕ) → EndsBefore l.rest l.column behind → EndsBefore l.fn.bytes l.from behind

abbrev pub decreases-loop-others : goal.decreases-loop-others
decreases-loop-others l = length l.rest
