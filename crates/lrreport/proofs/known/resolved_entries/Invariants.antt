-- those so far
use Rattle.std.proofs.Common.{◌≡◌, map, take}
use Rattle.lrreport.proofs.known.resolved_entries.Given as goal

abbrev pub invariant-loop-one : goal.invariant-loop-one
invariant-loop-one l = l.entries.items ≡ map (λ s. s.entry) (take l.one-index l.resolved)
