-- the positions are won, and this is known of the moves so far
use Rattle.std.proofs.Common.{take}
use Rattle.std.specs.Prelude.{All}
use Rattle.lrconflicts.specs.StoredMoves.{move_of}
use Rattle.lrgrammar.specs.Symbols.{number_of}
use Rattle.lrkept.specs.Keeping.{IsWon, IsKnownOf}
use Rattle.lrkept.proofs.keeping.all_known_of.Given as goal

abbrev pub invariant-loop-theirs : goal.invariant-loop-theirs
invariant-loop-theirs l =
    record {
      won : IsWon l.automaton.grm.now l.automaton.graph.now l.certificate;
      known : All (λ n. IsKnownOf l.known l.automaton.grm.now l.automaton.graph.now l.automaton.table.now l.cell.0.0 l.cell.1.0 (move_of number_of n))
          (take l.theirs-index l.moves);
    }
