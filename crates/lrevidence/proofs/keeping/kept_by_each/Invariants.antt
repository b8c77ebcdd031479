-- the certificate is won, and those so far are kept
use Rattle.std.proofs.Common.{All}
use Rattle.lrkept.specs.Keeping.{IsWon}
use Rattle.lrevidence.specs.KeptEntries.{IsKeptEntry}
use Rattle.lrevidence.proofs.keeping.kept_by_each.Given as goal

abbrev pub invariant-loop-entry : goal.invariant-loop-entry
invariant-loop-entry l =
    record {
      won : IsWon l.automaton.grm.now l.automaton.graph.now l.certificate;
      kept : All (IsKeptEntry l.automaton.grm.now l.automaton.graph.now l.automaton.table.now) l.kept.items;
    }
