use Rattle.std.proofs.Common.{◌∙◌, sym}
use Rattle.lrfindings.proofs.ReducedPairs.{differ, first_passed, reduced_passed, one_taken}
use Rattle.lrfindings.proofs.reached.unreduced_of.Goals as goal

pub loop-production-preserved-then-production-start : goal.loop-production-preserved-then-production-start
loop-production-preserved-then-production-start c =
    first_passed c.args.grm.now.start_production c.args.reduced.now c.loop-production.production _
    (c.if-production-start.true ∙ c.from-start.ensures ∙ c.start_prod.ensures) c.loop-production.invariant

pub loop-production-preserved-then-is_marked : goal.loop-production-preserved-then-is_marked
loop-production-preserved-then-is_marked c =
    let within = rw (c.from-production-end.ensures ∙ c.prods_len.ensures.value) at c.loop-production-test.true in
    reduced_passed c.args.grm.now.start_production c.args.reduced.now c.loop-production.production _
    (sym (c.in_ok-bits.ensures c.loop-production.production within) ∙ sym c.is_marked.ensures ∙ c.if-is_marked.true) c.loop-production.invariant

pub loop-production-preserved : goal.loop-production-preserved
loop-production-preserved c =
    let within = rw (c.from-production-end.ensures ∙ c.prods_len.ensures.value) at c.loop-production-test.true in
    one_taken c.args.grm.now.start_production c.args.reduced.now c.loop-production.production _ _
    (differ _ _ (λ same. c.if-production-start.false (same ∙ sym (c.from-start.ensures ∙ c.start_prod.ensures))))
    (sym (c.in_ok-bits.ensures c.loop-production.production within) ∙ sym c.is_marked.ensures ∙ c.if-is_marked.false) c.in_ok-push.ensures.items
    c.loop-production.invariant
