use Rattle.std.proofs.Common.{◌<◌, arith}
use Rattle.lrclosing.proofs.KeptRows.{joined_below, joined_above, changed_below, changed_above}
use Rattle.lrclosing.proofs.closer.join_row.Goals as goal

pub returns-then-to-from-clause-joined : goal.returns-then-to-from-clause-joined
returns-then-to-from-clause-joined c = λ v w h k.
    joined_below c.args.rows.now _ _ c.args.to c.args.from v w c.index-below-to.result c.index-above-0.result c.or.new.self
    c.split_at_mut-below.ensures.value c.split_at_mut-below.ensures.front_len c.if-to-from.true h k c.or.ensures.after

pub returns-then-to-from-clause-changed : goal.returns-then-to-from-clause-changed
returns-then-to-from-clause-changed c = λ v w h k.
    changed_below c.or.result c.args.rows.now _ _ c.args.to c.args.from v w c.index-below-to.result c.index-above-0.result c.or.new.self
    c.split_at_mut-below.ensures.value c.split_at_mut-below.ensures.front_len c.if-to-from.true h k c.or.ensures.after c.or.ensures.changed

pub returns-else-to-from-clause-joined : goal.returns-else-to-from-clause-joined
returns-else-to-from-clause-joined c = λ v w h k.
    let below : c.args.from < c.args.to = omega (arith, c.if-to-from.false, c.requires.apart) in
    joined_above c.args.rows.now _ _ c.args.to c.args.from v w c.index-above-0-else-to-from.result c.index-below-from.result c.or-else-to-from.new.self
    c.split_at_mut-below-else-to-from.ensures.value c.split_at_mut-below-else-to-from.ensures.front_len below h k c.or-else-to-from.ensures.after

pub returns-else-to-from-clause-changed : goal.returns-else-to-from-clause-changed
returns-else-to-from-clause-changed c = λ v w h k.
    let below : c.args.from < c.args.to = omega (arith, c.if-to-from.false, c.requires.apart) in
    changed_above c.or-else-to-from.result c.args.rows.now _ _ c.args.to c.args.from v w c.index-above-0-else-to-from.result c.index-below-from.result c.or-else-to-from.new.self
    c.split_at_mut-below-else-to-from.ensures.value c.split_at_mut-below-else-to-from.ensures.front_len below h k c.or-else-to-from.ensures.after
    c.or-else-to-from.ensures.changed
