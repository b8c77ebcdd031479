use Rattle.std.proofs.Common.{◌≡◌, ℕ, ◌<◌, get_or, true}
use Rattle.lrtext.specs.Runs.{passes}
use Rattle.lrtext.proofs.runs.run_len.Given as goal

abbrev pub invariant-loop-i : goal.invariant-loop-i
invariant-loop-i l = (k : ℕ) → k < l.i → passes l.run (get_or l.bytes k 0) ≡ true
