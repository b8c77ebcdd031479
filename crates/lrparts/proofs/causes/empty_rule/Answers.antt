use Rattle.std.proofs.Common.{length, ap, arith}
use Rattle.lrparts.proofs.TruthTests.{true_if, false_if}
use Rattle.lrparts.proofs.UsedRules.{empty_from_unused, none_empty}
use Rattle.lrparts.proofs.causes.empty_rule.Goals as goal

pub returns-then-not-is_used : goal.returns-then-not-is_used
returns-then-not-is_used c =
    true_if (empty_from_unused c.args.parts.now _ c.loop-is_used.is_used-index c.in_ok-used.ensures (omega (arith, ap length c.deref-is_used-items.ensures.value)) (rw c.deref-is_used-items.ensures.value at c.if-not-is_used.true))

pub returns : goal.returns
returns c = false_if (none_empty c.args.parts.now _ c.in_ok-used.ensures (λ r l. rw c.deref-is_used-items.ensures.value at (c.loop-is_used.invariant r (omega (arith, ap length c.deref-is_used-items.ensures.value)))))
