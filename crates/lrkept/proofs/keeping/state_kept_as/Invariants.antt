-- the positions are won, and this is known of the cells of the tokens so far
use Rattle.std.proofs.Common.{ℕ, ◌<◌}
use Rattle.lrkept.specs.Keeping.{IsWon, IsCellKeptAs}
use Rattle.lrkept.proofs.keeping.state_kept_as.Given as goal

abbrev pub invariant-loop-number : goal.invariant-loop-number
invariant-loop-number l =
    record {
      won : IsWon l.automaton.grm.now l.automaton.graph.now l.certificate;
      known : (t : ℕ) → t < l.number → IsCellKeptAs l.known l.automaton.grm.now l.automaton.graph.now l.automaton.table.now l.state.0 t;
    }
