-- a turn for each state
use Rattle.std.proofs.Common.{◌<◌, length, subst, arith}
use Rattle.lrgrammar.proofs.Turns.{has_index, index_number}
use Rattle.lrgrammar.specs.Symbols.{number_of}
use Rattle.lrkept.specs.Keeping.{IsStateKeptAs}
use Rattle.lrkept.proofs.KeptCells.{state_more}
use Rattle.lrkept.proofs.keeping.table_kept_as.Goals as goal

pub unwrap-requires : goal.unwrap-requires
unwrap-requires c =
    has_index _ _ c.loop-number.number c.from_usize.result c.from_usize.ensures
    (omega (arith, c.loop-number-test.true, c.to_usize-number-end.ensures.number, c.to_usize-number-end.ensures.within))

pub state_kept_as-requires-clause-state : goal.state_kept_as-requires-clause-state
state_kept_as-requires-clause-state c =
    let n = c.loop-number.number in
    let h = c.args.automaton.graph.now in
    let is = index_number number_of _ n c.from_usize.result c.unwrap.result c.unwrap.ensures c.from_usize.ensures in
    let within : n < length h = omega (arith, c.loop-number-test.true, c.to_usize-number-end.ensures.number, c.all_states_len.ensures) in
    omega (arith, is, within)

pub loop-number-init : goal.loop-number-init
loop-number-init c = record { won = c.requires.won; known = λ s l. absurd (omega (arith, l)) }

pub loop-number-preserved : goal.loop-number-preserved
loop-number-preserved c =
    let n = c.loop-number.number in
    let grm = c.args.automaton.grm.now in
    let h = c.args.automaton.graph.now in
    let b = c.args.automaton.table.now in
    let is = index_number number_of _ n c.from_usize.result c.unwrap.result c.unwrap.ensures c.from_usize.ensures in
    record {
      won = c.in_ok-of_this.ensures.won;
      known = state_more _ _ _ c.known_of_both-known.ensures grm h b n c.loop-number.invariant.known
          (subst (IsStateKeptAs c.in_ok-of_this.of_this grm h b) is c.in_ok-of_this.ensures.known);
    }

pub returns-clause-known : goal.returns-clause-known
returns-clause-known c = λ s l. c.loop-number.invariant.known s (omega (arith, l, c.loop-number-test.false, c.to_usize-number-end.ensures.number, c.all_states_len.ensures))
