use Rattle.std.proofs.Common.{◌∙◌}
use Rattle.lrfindings.proofs.ReducedPairs.{no_bits, bit_passed, bit_set, all_bits}
use Rattle.lrfindings.proofs.reached.reduced_bits.Goals as goal

pub loop-one-init : goal.loop-one-init
loop-one-init c = no_bits c.args.reduced.now c.args.grm.now.productions c.from.result _ c.in_ok-bits.ensures.bits (c.from.ensures ∙ c.prods_len.ensures.value)

pub loop-one-preserved-then-one-len : goal.loop-one-preserved-then-one-len
loop-one-preserved-then-one-len c =
    bit_passed c.args.reduced.now c.args.grm.now.productions c.loop-one.one-index _ c.loop-one-test.true _ c.loop-one.invariant
    (rw c.len.ensures.number at c.if-one-len.true)

pub loop-one-preserved : goal.loop-one-preserved
loop-one-preserved c =
    bit_set c.args.reduced.now c.args.grm.now.productions c.loop-one.one-index _ c.loop-one-test.true _ c.loop-one.invariant _
    (rw c.len.ensures.number at c.if-one-len.false) c.set.ensures.after

pub returns : goal.returns
returns c = all_bits c.args.reduced.now c.args.grm.now.productions c.loop-one.one-index _ c.loop-one-test.false c.loop-one.invariant
