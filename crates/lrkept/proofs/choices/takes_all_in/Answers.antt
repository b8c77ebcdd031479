-- a turn for each token
use Rattle.std.proofs.Common.{ℕ, subst, arith}
use Rattle.lrgrammar.proofs.Turns.{has_index, index_number}
use Rattle.lrdecided.proofs.DecidedCells.{next_below}
use Rattle.lrgrammar.specs.Symbols.{number_of}
use Rattle.lrkept.specs.Choices.{TakesShift, TakesReductions}
use Rattle.lrexchange.proofs.Tests.{test_fails, so, not_so}
use Rattle.lrkept.proofs.choices.takes_all_in.Goals as goal

pub unwrap-requires : goal.unwrap-requires
unwrap-requires c =
    has_index _ _ c.loop-number.number c.from_usize.result c.from_usize.ensures
    (omega (arith, c.loop-number-test.true, c.to_usize-number-end.ensures.number, c.to_usize-number-end.ensures.within))

pub loop-number-init : goal.loop-number-init
loop-number-init c = λ t l. absurd (omega (arith, l))

pub loop-number-preserved : goal.loop-number-preserved
loop-number-preserved c =
    let n = c.loop-number.number in
    let grm = c.args.grm.now in
    let h = c.args.graph.now in
    let b = c.args.table.now in
    let s = c.args.state.0 in
    let is = index_number number_of _ n c.from_usize.result c.unwrap.result c.unwrap.ensures c.from_usize.ensures in
    let Here = λ (t : ℕ). TakesShift h b s t × TakesReductions grm h b s t in
    next_below Here n c.loop-number.invariant
    (subst Here is (c.takes_shift.ensures.0 c.if-not-takes_shift.false, c.takes_reductions.ensures.0 c.if-not-takes_reductions.false))

pub returns : goal.returns
returns c = so (λ t l. c.loop-number.invariant t (omega (arith, l, c.loop-number-test.false, c.to_usize-number-end.ensures.number, c.tokens_len.ensures.value)))

pub returns-then-not-takes_shift : goal.returns-then-not-takes_shift
returns-then-not-takes_shift c =
    let is = index_number number_of _ c.loop-number.number c.from_usize.result c.unwrap.result c.unwrap.ensures c.from_usize.ensures in
    not_so (λ all. test_fails c.takes_shift.result c.takes_shift.ensures c.if-not-takes_shift.true
    (all c.unwrap.result (omega (arith, is, c.loop-number-test.true, c.to_usize-number-end.ensures.number, c.tokens_len.ensures.value))).0)

pub returns-then-not-takes_reductions : goal.returns-then-not-takes_reductions
returns-then-not-takes_reductions c =
    let is = index_number number_of _ c.loop-number.number c.from_usize.result c.unwrap.result c.unwrap.ensures c.from_usize.ensures in
    not_so (λ all. test_fails c.takes_reductions.result c.takes_reductions.ensures c.if-not-takes_reductions.true
    (all c.unwrap.result (omega (arith, is, c.loop-number-test.true, c.to_usize-number-end.ensures.number, c.tokens_len.ensures.value))).1)
