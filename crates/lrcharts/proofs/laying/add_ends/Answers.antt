-- a turn for each bit of the range
use Rattle.std.proofs.Common.{true, length, refl, ap, ◌∙◌, inl, arith}
use Rattle.std.proofs.lemmas.List.{length-set}
use Rattle.lrgrammar.specs.Symbols.{symbol_of, number_of}
use Rattle.lrcharts.proofs.EndsInTurn.{begin_adding, next_adding}
use Rattle.lrcharts.proofs.laying.add_ends.Goals as goal

pub loop-at-init : goal.loop-at-init
loop-at-init c =
    let bits = c.bits_from-start.ensures in
    rw c.into_iter-at-iterator.ensures.into_iter_gives
    (begin_adding c.args.chart.now (symbol_of number_of c.args.symbol) c.args.from c.bits_from-start.result.0 c.bits_from-start.result.1
    c.in-Some.row.now c.args.ends.now c.iter_set_bits-at-items.result c.in-Some.ensures.some c.requires.places bits.start bits.end bits.all c.iter_set_bits-at-items.ensures.members)

pub overflow_sub-at : goal.overflow_sub-at
overflow_sub-at c = (c.loop-at.invariant.inside c.in-Some-at.at (rw c.in-Some-at.ensures.steps (inl refl))).1

pub set-requires : goal.set-requires
set-requires c =
    let inside = c.loop-at.invariant.inside c.in-Some-at.at (rw c.in-Some-at.ensures.steps (inl refl)) in
    omega (arith, inside.1, inside.2, c.loop-at.invariant.places)

pub loop-at-preserved : goal.loop-at-preserved
loop-at-preserved c =
    next_adding c.args.chart.now (symbol_of number_of c.args.symbol) c.args.from c.bits_from-start.result.0 c.bits_from-start.result.1 c.args.ends.now c.loop-at.ends
    c.set.new.self c.in-Some-at.at c.loop-at.at-iterator c.next.new.self c.in-Some-at.ensures.steps c.set.ensures.after (ap length c.set.ensures.after ∙ length-set c.loop-at.ends _ true) c.loop-at.invariant
