use Rattle.lrgrammar.proofs.RowPasses.{Passed}
use Rattle.lrgrammar.proofs.firsts.rows.grow_rows.Given as goal

abbrev pub invariant-loop-i : goal.invariant-loop-i
invariant-loop-i g l = Passed l.grm l.nullable l.initial.rows l.rows l.i l.grown
