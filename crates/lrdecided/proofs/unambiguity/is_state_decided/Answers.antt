-- a turn for each token
use Rattle.std.proofs.Common.{subst, arith}
use Rattle.lrgrammar.proofs.Turns.{has_index, index_number}
use Rattle.lrconflicts.specs.StoredMoves.{moves_stored}
use Rattle.lrgrammar.specs.Symbols.{number_of}
use Rattle.lrdecided.specs.Contenders.{IsCellDecided}
use Rattle.lrdecided.proofs.DecidedCells.{next_below, cell_decided}
use Rattle.lrdecided.proofs.unambiguity.is_state_decided.Goals as goal

pub unwrap-requires : goal.unwrap-requires
unwrap-requires c =
    has_index _ _ c.loop-number.number c.from_usize.result c.from_usize.ensures
    (omega (arith, c.loop-number-test.true, c.to_usize-number-end.ensures.number, c.to_usize-number-end.ensures.within))

pub contenders-requires : goal.contenders-requires
contenders-requires c = rw c.as_slice.ensures.value c.in_ok-completes.ensures

pub loop-number-init : goal.loop-number-init
loop-number-init c = λ t l. absurd (omega (arith, l))

pub loop-number-preserved : goal.loop-number-preserved
loop-number-preserved c =
    let n = c.loop-number.number in
    let grm = c.args.search.grm.now in
    let h = c.args.search.graph.now in
    let s = c.args.state.0 in
    let is = index_number number_of _ n c.from_usize.result c.unwrap.result c.unwrap.ensures c.from_usize.ensures in
    let pairs = rw c.as_slice-in-loop-number.ensures.value at (c.in_ok-are_pairs_decided.ensures c.if-not-branch.false) in
    next_below (IsCellDecided grm h s) n c.loop-number.invariant
    (subst (IsCellDecided grm h s) is (cell_decided grm h s _ (moves_stored number_of c.in_ok-moves.moves.items) c.in_ok-moves.ensures pairs))

pub returns : goal.returns
returns c = λ yes t l. c.loop-number.invariant t (omega (arith, l, c.loop-number-test.false, c.to_usize-number-end.ensures.number, c.tokens_len.ensures.value))
