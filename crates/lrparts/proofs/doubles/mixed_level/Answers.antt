use Rattle.std.proofs.Common.{length, cond, Some, ap, ◌∙◌, arith, rules}
use Rattle.std.specs.Ordering.{nat_cmp}
use Rattle.std.specs.BTreeMap.{get}
use Rattle.lrparts.proofs.TruthTests.{true_if, false_if}
use Rattle.lrparts.proofs.KindLookUps.{kinds_after, kinds_past, mixed_from_other, none_mixed, at_turn}
use Rattle.lrparts.proofs.doubles.mixed_level.Goals as goal
use Rattle.lrparts.proofs.doubles.mixed_level.Goals.{in-Some+in_ok-old+else-is_other, in_default}

pub returns-then-is_other : goal.returns-then-is_other
returns-then-is_other c =
    let tokens = c.args.parts.now.tokens.items in
    true_if (mixed_from_other (get nat_cmp c.loop-token.kinds) tokens c.loop-token.token-index c.in-Some.precedence c.in_ok-old.old c.loop-token.invariant (at_turn tokens _ _ c.token-item.result _ c.deref-token-items.ensures.value c.loop-token-test.true c.token-item.is c.in-Some.is) c.in_ok-old.ensures.old (c.is_other.ensures.other c.if-is_other.true))

pub loop-token-preserved : goal.loop-token-preserved
loop-token-preserved c =
    let tokens = c.args.parts.now.tokens.items in
    elim c.match-token.branch [
      | in-Some+in_ok-old+else-is_other w ↦ rw w.kinds-is (kinds_after (get nat_cmp c.loop-token.kinds) (get nat_cmp w.insert.new.self) tokens c.loop-token.token-index w.in-Some.precedence w.in_ok-old.old c.loop-token.invariant (at_turn tokens _ _ c.token-item.result _ c.deref-token-items.ensures.value c.loop-token-test.true c.token-item.is w.in-Some.is) w.in_ok-old.ensures.old (w.is_other.ensures.same w.if-is_other.false) (λ q. w.in_ok-old.ensures.updates.0 q ∙ ap (λ b. cond b (Some w.in-Some.precedence.kind) (get nat_cmp c.loop-token.kinds q)) (search rules)))
      | in_default w ↦ rw w.kinds-is (kinds_past (get nat_cmp c.loop-token.kinds) tokens c.loop-token.token-index c.loop-token.invariant (at_turn tokens _ _ c.token-item.result _ c.deref-token-items.ensures.value c.loop-token-test.true c.token-item.is w.in_default.is))
    ]

pub returns : goal.returns
returns c =
    false_if (none_mixed (get nat_cmp c.loop-token.kinds) c.args.parts.now.tokens.items c.loop-token.token-index c.loop-token.invariant (omega (arith, ap length c.deref-token-items.ensures.value)))
