-- those so far
use Rattle.std.proofs.Common.{◌≡◌, ◌≤◌, take}
use Rattle.std.specs.List.{count_by}
use Rattle.lrshown.specs.Losses.{rejects}
use Rattle.lrreport.proofs.verdicts.rejecting.Given as goal

abbrev pub invariant-loop-one : goal.invariant-loop-one
invariant-loop-one l = (l.count ≡ count_by rejects (take l.one-index l.evidence)) × (l.count ≤ l.one-index)
