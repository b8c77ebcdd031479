-- the positions are won, and this is known of the states so far
use Rattle.std.proofs.Common.{ℕ, ◌<◌}
use Rattle.lrkept.specs.Keeping.{IsWon, IsStateKeptAs}
use Rattle.lrkept.proofs.keeping.table_kept_as.Given as goal

abbrev pub invariant-loop-number : goal.invariant-loop-number
invariant-loop-number l =
    record {
      won : IsWon l.automaton.grm.now l.automaton.graph.now l.certificate;
      known : (s : ℕ) → s < l.number → IsStateKeptAs l.known l.automaton.grm.now l.automaton.graph.now l.automaton.table.now s;
    }
