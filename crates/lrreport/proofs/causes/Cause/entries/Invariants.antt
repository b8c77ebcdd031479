-- those of the states so far
use Rattle.std.proofs.Common.{◌≡◌, map, take}
use Rattle.std.specs.List.{flat_map}
use Rattle.lrreport.proofs.causes.Cause.entries.Given as goal

abbrev pub invariant-loop-meeting : goal.invariant-loop-meeting
invariant-loop-meeting l = l.entries.items ≡ map (λ e. e.entry) (flat_map (λ m. m.now) (take l.meeting-index l.self.meetings.items))
