-- a turn for each of the other moves
use Rattle.std.proofs.Common.{◌≢◌}
use Rattle.std.proofs.lemmas.List.{get_or_default}
use Rattle.lrconflicts.specs.StoredMoves.{move_of}
use Rattle.lrgrammar.specs.Symbols.{number_of}
use Rattle.lrdecided.specs.Decided.{IsDecided}
use Rattle.lrdecided.proofs.SameNodes.{all_more, all_of}
use Rattle.lrdecided.proofs.unambiguity.is_decided_against.Goals as goal

pub loop-other-preserved : goal.loop-other-preserved
loop-other-preserved c =
    let m = move_of number_of c.args.one in
    all_more (move_of number_of) (λ n. m ≢ n → IsDecided c.args.search.grm.now c.args.search.graph.now c.args.state.0 c.args.token.0 m n) c.args.others.now
    c.loop-other.other-index _ c.loop-other-test.true (get_or_default c.args.others.now c.loop-other.other-index _ _ c.loop-other-test.true) c.loop-other.invariant (c.in_ok-is_decided.ensures c.if-not-branch.false)

pub returns : goal.returns
returns c = λ t.
    let m = move_of number_of c.args.one in
    all_of (move_of number_of) (λ n. m ≢ n → IsDecided c.args.search.grm.now c.args.search.graph.now c.args.state.0 c.args.token.0 m n) c.args.others.now
    c.loop-other.other-index c.loop-other-test.false c.loop-other.invariant
