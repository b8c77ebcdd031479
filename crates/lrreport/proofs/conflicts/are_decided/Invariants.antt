-- those so far are decided
use Rattle.std.proofs.Common.{take}
use Rattle.std.specs.List.{All}
use Rattle.std.specs.Prelude.{IsSome}
use Rattle.lrreport.proofs.conflicts.are_decided.Given as goal

abbrev pub invariant-loop-evidence : goal.invariant-loop-evidence
invariant-loop-evidence l = All (λ e. IsSome e.decided) (take l.evidence-index l.meeting)
