-- a turn for each state
use Rattle.std.proofs.Common.{◌<◌, length, subst, arith}
use Rattle.lrgrammar.proofs.Turns.{has_index, index_number}
use Rattle.lrdecided.proofs.DecidedCells.{next_below}
use Rattle.lrgrammar.specs.Symbols.{number_of}
use Rattle.lrkept.specs.Choices.{TakesAllIn}
use Rattle.lrexchange.proofs.Tests.{test_fails, so, not_so}
use Rattle.lrkept.proofs.choices.takes_all.Goals as goal

pub unwrap-requires : goal.unwrap-requires
unwrap-requires c =
    has_index _ _ c.loop-number.number c.from_usize.result c.from_usize.ensures
    (omega (arith, c.loop-number-test.true, c.to_usize-number-end.ensures.number, c.to_usize-number-end.ensures.within))

pub takes_all_in-requires-clause-state : goal.takes_all_in-requires-clause-state
takes_all_in-requires-clause-state c =
    let n = c.loop-number.number in
    let h = c.args.graph.now in
    let is = index_number number_of _ n c.from_usize.result c.unwrap.result c.unwrap.ensures c.from_usize.ensures in
    let within : n < length h = omega (arith, c.loop-number-test.true, c.to_usize-number-end.ensures.number, c.all_states_len.ensures) in
    omega (arith, is, within)

pub loop-number-init : goal.loop-number-init
loop-number-init c = λ s l. absurd (omega (arith, l))

pub loop-number-preserved : goal.loop-number-preserved
loop-number-preserved c =
    let n = c.loop-number.number in
    let grm = c.args.grm.now in
    let h = c.args.graph.now in
    let b = c.args.table.now in
    let is = index_number number_of _ n c.from_usize.result c.unwrap.result c.unwrap.ensures c.from_usize.ensures in
    next_below (TakesAllIn grm h b) n c.loop-number.invariant (subst (TakesAllIn grm h b) is (c.takes_all_in.ensures.0 c.if-not-takes_all_in.false))

pub returns : goal.returns
returns c = so (λ s l. c.loop-number.invariant s (omega (arith, l, c.loop-number-test.false, c.to_usize-number-end.ensures.number, c.all_states_len.ensures)))

pub returns-then-not-takes_all_in : goal.returns-then-not-takes_all_in
returns-then-not-takes_all_in c =
    let is = index_number number_of _ c.loop-number.number c.from_usize.result c.unwrap.result c.unwrap.ensures c.from_usize.ensures in
    not_so (λ all. test_fails c.takes_all_in.result c.takes_all_in.ensures c.if-not-takes_all_in.true
    (all c.unwrap.result (omega (arith, is, c.loop-number-test.true, c.to_usize-number-end.ensures.number, c.all_states_len.ensures))))
