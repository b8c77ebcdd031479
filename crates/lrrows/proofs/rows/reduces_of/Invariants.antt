use Rattle.std.proofs.Common.{◌≡◌, ◌++◌}
use Rattle.lrrows.proofs.rows.reduces_of.Given as goal

abbrev pub invariant-loop-pidx : goal.invariant-loop-pidx
invariant-loop-pidx g l = l.reduces.items ++ l.pidx-iterator ≡ l.initial.pidx-iterator
