-- those so far have one
use Rattle.std.proofs.Common.{take}
use Rattle.std.specs.List.{All}
use Rattle.std.specs.Prelude.{IsSome}
use Rattle.lrreport.proofs.notes.have_sentences.Given as goal

abbrev pub invariant-loop-evidence : goal.invariant-loop-evidence
invariant-loop-evidence l = All (λ e. IsSome e.ambiguity) (take l.evidence-index l.meeting)
