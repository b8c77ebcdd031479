use Rattle.std.proofs.Common.{arith}
use Rattle.lrgrammar.proofs.JoinedRows.{join_low, join_high, join_self}
use Rattle.lrgrammar.proofs.firsts.rows.join.Goals as goal

pub returns-then-to-from-clause-after : goal.returns-then-to-from-clause-after
returns-then-to-from-clause-after c =
    let s = c.split_at_mut-low.ensures in
    join_low c.args.rows.now c.split_at_mut-low.result.0.now c.split_at_mut-low.result.1.now c.args.to c.args.from _ _ _ s.value s.front_len (omega arith) (omega arith) c.or.ensures.after

pub returns-then-from-to-clause-after : goal.returns-then-from-to-clause-after
returns-then-from-to-clause-after c =
    let s = c.split_at_mut-low-then-from-to.ensures in
    join_high c.args.rows.now c.split_at_mut-low-then-from-to.result.0.now c.split_at_mut-low-then-from-to.result.1.now c.args.to c.args.from _ _ _ s.value s.front_len (omega arith) (omega arith) c.or-then-from-to.ensures.after

pub returns-else-from-to-clause-after : goal.returns-else-from-to-clause-after
returns-else-from-to-clause-after c = join_self c.args.rows.now c.args.to c.args.from (omega arith)
