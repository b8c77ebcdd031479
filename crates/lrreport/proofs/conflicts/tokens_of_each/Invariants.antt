-- so many decide those so far
use Rattle.std.proofs.Common.{◌≡◌, Some, take}
use Rattle.std.specs.List.{All}
use Rattle.lrshown.specs.DecidedEntries.{tokens_of}
use Rattle.lrreport.proofs.conflicts.tokens_of_each.Given as goal

abbrev pub invariant-loop-evidence : goal.invariant-loop-evidence
invariant-loop-evidence l = All (λ e. tokens_of e ≡ Some l.tokens) (take l.evidence-index l.meeting)
