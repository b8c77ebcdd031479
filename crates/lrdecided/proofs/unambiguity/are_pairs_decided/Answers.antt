-- a turn for each move
use Rattle.std.proofs.lemmas.List.{get_or_default}
use Rattle.lrconflicts.specs.StoredMoves.{move_of}
use Rattle.lrgrammar.specs.Symbols.{number_of}
use Rattle.lrdecided.proofs.DecidedCells.{no_pairs, pair_more, pair_all}
use Rattle.lrdecided.proofs.unambiguity.are_pairs_decided.Goals as goal

pub loop-place-init : goal.loop-place-init
loop-place-init c =
    no_pairs c.args.search.grm.now c.args.search.graph.now c.args.state.0 c.args.token.0

pub loop-place-preserved : goal.loop-place-preserved
loop-place-preserved c =
    pair_more c.args.search.grm.now c.args.search.graph.now c.args.state.0 c.args.token.0 (move_of number_of) c.args.moves.now c.loop-place.place
    _ c.loop-place-test.true (get_or_default c.args.moves.now c.loop-place.place _ _ c.loop-place-test.true) c.loop-place.invariant (c.in_ok-is_decided_against.ensures c.if-not-branch.false)

pub returns : goal.returns
returns c = λ t.
    pair_all c.args.search.grm.now c.args.search.graph.now c.args.state.0 c.args.token.0 (move_of number_of) c.args.moves.now c.loop-place.place
    c.loop-place-test.false c.loop-place.invariant
