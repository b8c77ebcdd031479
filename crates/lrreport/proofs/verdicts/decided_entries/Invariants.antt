-- those so far
use Rattle.std.proofs.Common.{◌≡◌, ◌≤◌, take}
use Rattle.std.specs.List.{count_by}
use Rattle.lrshown.specs.DecidedEntries.{is_decided}
use Rattle.lrreport.proofs.verdicts.decided_entries.Given as goal

abbrev pub invariant-loop-one : goal.invariant-loop-one
invariant-loop-one l = (l.count ≡ count_by is_decided (take l.one-index l.evidence)) × (l.count ≤ l.one-index)
