-- each entry of those so far has one
use Rattle.std.proofs.Common.{take}
use Rattle.std.specs.List.{All}
use Rattle.std.specs.Prelude.{IsSome}
use Rattle.lrreport.proofs.causes.have_all_sentences.Given as goal

abbrev pub invariant-loop-meeting : goal.invariant-loop-meeting
invariant-loop-meeting l = All (λ m. All (λ e. IsSome e.ambiguity) m.now) (take l.meeting-index l.meetings)
