-- those so far
use Rattle.std.proofs.Common.{◌≡◌, map, take}
use Rattle.lrreport.proofs.conflicts.entries_of.Given as goal

abbrev pub invariant-loop-one : goal.invariant-loop-one
invariant-loop-one l = l.entries.items ≡ map (λ e. e.entry) (take l.one-index l.evidence)
