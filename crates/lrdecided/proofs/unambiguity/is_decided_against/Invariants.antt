-- those so far are decided
use Rattle.std.proofs.Common.{◌≢◌, take}
use Rattle.std.specs.Prelude.{All}
use Rattle.lrconflicts.specs.StoredMoves.{move_of}
use Rattle.lrgrammar.specs.Symbols.{number_of}
use Rattle.lrdecided.specs.Decided.{IsDecided}
use Rattle.lrdecided.proofs.unambiguity.is_decided_against.Given as goal

abbrev pub invariant-loop-other : goal.invariant-loop-other
invariant-loop-other l =
    let m = move_of number_of l.one in
    All (λ n. m ≢ move_of number_of n → IsDecided l.search.grm.now l.search.graph.now l.state.0 l.token.0 m (move_of number_of n)) (take l.other-index l.others)
