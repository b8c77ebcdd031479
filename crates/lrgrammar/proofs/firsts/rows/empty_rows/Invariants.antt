use Rattle.std.proofs.Common.{◌≡◌, false, replicate}
use Rattle.lrgrammar.proofs.firsts.rows.empty_rows.Given as goal

abbrev pub invariant-loop : goal.invariant-loop
invariant-loop l = l.rows.items ≡ replicate l.counter (replicate l.tokens false)
