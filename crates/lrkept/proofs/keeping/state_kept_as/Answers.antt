-- a turn for each token
use Rattle.std.proofs.Common.{subst, arith}
use Rattle.lrgrammar.proofs.Turns.{has_index, index_number}
use Rattle.lrconflicts.specs.StoredMoves.{moves_stored}
use Rattle.lrdecided.specs.Contenders.{HasContenders}
use Rattle.lrgrammar.specs.Symbols.{number_of}
use Rattle.lrkept.specs.Keeping.{AreKnownOf}
use Rattle.lrkept.proofs.KeptCells.{token_more}
use Rattle.lrkept.proofs.keeping.state_kept_as.Goals as goal

pub unwrap-requires : goal.unwrap-requires
unwrap-requires c =
    has_index _ _ c.loop-number.number c.from_usize.result c.from_usize.ensures
    (omega (arith, c.loop-number-test.true, c.to_usize-number-end.ensures.number, c.to_usize-number-end.ensures.within))

pub contenders-requires : goal.contenders-requires
contenders-requires c = rw c.as_slice.ensures.value c.in_ok-completes.ensures

pub loop-number-init : goal.loop-number-init
loop-number-init c = record { won = c.requires.won; known = λ t l. absurd (omega (arith, l)) }

pub loop-number-preserved : goal.loop-number-preserved
loop-number-preserved c =
    let n = c.loop-number.number in
    let grm = c.args.automaton.grm.now in
    let h = c.args.automaton.graph.now in
    let b = c.args.automaton.table.now in
    let s = c.args.state.0 in
    let moves = moves_stored number_of c.in_ok-moves.moves.items in
    let is = index_number number_of _ n c.from_usize.result c.unwrap.result c.unwrap.ensures c.from_usize.ensures in
    let here = rw c.as_slice-in-loop-number.ensures.value at c.in_ok-of_this.ensures.known in
    record {
      won = c.in_ok-of_this.ensures.won;
      known = token_more _ _ _ c.known_of_both-known.ensures grm h b s n moves (subst (λ t. HasContenders grm h s t moves) is c.in_ok-moves.ensures)
          c.loop-number.invariant.known (subst (λ t. AreKnownOf c.in_ok-of_this.of_this grm h b s t moves) is here);
    }

pub returns-clause-known : goal.returns-clause-known
returns-clause-known c = λ t l. c.loop-number.invariant.known t (omega (arith, l, c.loop-number-test.false, c.to_usize-number-end.ensures.number, c.tokens_len.ensures.value))
