-- those so far, and the searches, which stay of the same
use Rattle.std.proofs.Common.{◌≡◌, map, take}
use Rattle.std.specs.Prelude.{All}
use Rattle.lrevidence.specs.Searches.{IsKnownBy}
use Rattle.lrevidence.proofs.evidence.evidence_of_all.Given as goal

abbrev pub invariant-loop-entry : goal.invariant-loop-entry
invariant-loop-entry l = record {
  entries : map (λ e. e.entry) l.list.items ≡ take l.entry-index l.entries;
  known : All (IsKnownBy l.initial.searches) l.list.items;
  same : l.searches ≡ l.initial.searches;
}
