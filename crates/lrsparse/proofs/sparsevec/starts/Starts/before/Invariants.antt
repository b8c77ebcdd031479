-- the search may begin at the greatest start so far
use Rattle.std.proofs.Common.{ℕ, List}
use Rattle.lrsparse.specs.Starts.{FitNowhereBelow, AreStarts}
use Rattle.lrsparse.proofs.sparsevec.starts.Starts.before.Given as goal

abbrev pub invariant-loop-place : goal.invariant-loop-place
invariant-loop-place l =
    (words : List ℕ) → AreStarts l.self words → FitNowhereBelow words l.columns l.least → FitNowhereBelow words l.columns l.start
