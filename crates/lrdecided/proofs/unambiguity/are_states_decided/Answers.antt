-- a turn for each state
use Rattle.std.proofs.Common.{◌<◌, length, subst, arith}
use Rattle.lrgrammar.proofs.Turns.{has_index, index_number}
use Rattle.lrgrammar.specs.Symbols.{number_of}
use Rattle.lrdecided.specs.Contenders.{IsStateDecided}
use Rattle.lrdecided.proofs.DecidedCells.{next_below}
use Rattle.lrdecided.proofs.unambiguity.are_states_decided.Goals as goal

pub unwrap-requires : goal.unwrap-requires
unwrap-requires c =
    has_index _ _ c.loop-number.number c.from_usize.result c.from_usize.ensures
    (omega (arith, c.loop-number-test.true, c.to_usize-number-end.ensures.number, c.to_usize-number-end.ensures.within))

pub is_state_decided-requires-clause-state : goal.is_state_decided-requires-clause-state
is_state_decided-requires-clause-state c =
    let n = c.loop-number.number in
    let h = c.args.search.graph.now in
    let is = index_number number_of _ n c.from_usize.result c.unwrap.result c.unwrap.ensures c.from_usize.ensures in
    let within : n < length h = omega (arith, c.loop-number-test.true, c.to_usize-number-end.ensures.number, c.all_states_len.ensures) in
    omega (arith, is, within)

pub loop-number-init : goal.loop-number-init
loop-number-init c = λ s l. absurd (omega (arith, l))

pub loop-number-preserved : goal.loop-number-preserved
loop-number-preserved c =
    let n = c.loop-number.number in
    let grm = c.args.search.grm.now in
    let h = c.args.search.graph.now in
    let is = index_number number_of _ n c.from_usize.result c.unwrap.result c.unwrap.ensures c.from_usize.ensures in
    next_below (IsStateDecided grm h) n c.loop-number.invariant (subst (IsStateDecided grm h) is (c.in_ok-is_state_decided.ensures c.if-not-branch.false))

pub returns : goal.returns
returns c = λ yes s l. c.loop-number.invariant s (omega (arith, l, c.loop-number-test.false, c.to_usize-number-end.ensures.number, c.all_states_len.ensures))
