-- what is left goes on with those so far
use Rattle.std.proofs.Common.{◌≡◌, ◌++◌, drop}
use Rattle.lrshown.specs.Chains.{kept, kept_by}
use Rattle.lrshown.proofs.chains.kept_steps.Given as goal

abbrev pub invariant-loop-place : goal.invariant-loop-place
invariant-loop-place l = kept l.file l.steps ≡ l.list.items ++ kept_by l.file l.cutting (drop l.place l.steps)
