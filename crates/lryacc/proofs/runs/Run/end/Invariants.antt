use Rattle.std.proofs.Common.{◌≡◌, ◌≤◌, ℕ, ◌<◌, true, slice_index}
use Rattle.lryacc.specs.Runs.{has}
use Rattle.lryacc.proofs.runs.Run.end.Given as goal

abbrev pub invariant-loop-at : goal.invariant-loop-at
invariant-loop-at l = (k : ℕ) → l.from ≤ k → k < l.at → has l.self (slice_index l.text k) ≡ true
