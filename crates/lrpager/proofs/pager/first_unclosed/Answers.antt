use Rattle.std.proofs.Common.{◌<◌, length, arith}
use Rattle.lrpager.proofs.NextStates.{is_unclosed, not_unclosed, none_more}
use Rattle.lrpager.proofs.pager.first_unclosed.Goals as goal

pub loop-i-init : goal.loop-i-init
loop-i-init g c = λ k f l u. omega (arith, f, l)

pub loop-i-preserved : goal.loop-i-preserved
loop-i-preserved g c =
    let below : c.loop-i.i < length c.args.drafts.now = omega arith in
    none_more c.args.drafts.now c.args.from c.loop-i.i c.loop-i.invariant
    (not_unclosed c.args.drafts.now c.loop-i.i c.index-drafts-i.result c.is_closed.result below c.index-drafts-i.is c.is_closed.ensures c.if-not-is_closed.false)

pub returns-then-not-is_closed : goal.returns-then-not-is_closed
returns-then-not-is_closed g c =
    let below : c.loop-i.i < length c.args.drafts.now = omega arith in
    record {
      from_on = c.loop-i.auto.i;
      unclosed = is_unclosed c.args.drafts.now c.loop-i.i c.index-drafts-i.result c.is_closed.result below c.index-drafts-i.is c.is_closed.ensures c.if-not-is_closed.true;
      none_before = c.loop-i.invariant;
    }

pub returns : goal.returns
returns g c = λ j f u. c.loop-i.invariant j f (omega (arith, u.0)) u
