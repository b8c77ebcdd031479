-- each two of those so far are decided
use Rattle.std.proofs.Common.{take}
use Rattle.lrconflicts.specs.StoredMoves.{moves_stored}
use Rattle.lrgrammar.specs.Symbols.{number_of}
use Rattle.lrdecided.specs.Contenders.{ArePairsDecided}
use Rattle.lrdecided.proofs.unambiguity.are_pairs_decided.Given as goal

abbrev pub invariant-loop-place : goal.invariant-loop-place
invariant-loop-place l =
    ArePairsDecided l.search.grm.now l.search.graph.now l.state.0 l.token.0 (moves_stored number_of (take l.place l.moves))
