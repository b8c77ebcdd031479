-- that of those so far
use Rattle.std.proofs.Common.{◌≡◌, map, take}
use Rattle.lrreport.proofs.causes.cause_of.Given as goal

abbrev pub invariant-loop-meeting : goal.invariant-loop-meeting
invariant-loop-meeting l = l.list.items ≡ map (λ m. m.evidence) (take l.meeting-index l.meetings)
