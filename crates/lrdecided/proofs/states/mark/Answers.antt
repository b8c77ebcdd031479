-- the bit was set, or was not
use Rattle.std.proofs.Common.{arith}
use Rattle.lrdecided.proofs.CollectedInTurn.{marked_past, marked}
use Rattle.lrdecided.proofs.states.mark.Goals as goal

pub returns-then-place-len-clause-marked : goal.returns-then-place-len-clause-marked
returns-then-place-len-clause-marked c = marked_past c.args.seen.now c.args.place

pub returns-clause-marked : goal.returns-clause-marked
returns-clause-marked c =
    marked c.args.seen.now _ c.args.place c.set.result (omega (arith, c.if-place-len.false, c.len.ensures.number)) c.set.ensures.after c.set.ensures.changed
