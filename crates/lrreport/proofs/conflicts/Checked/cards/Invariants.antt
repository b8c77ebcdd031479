-- the cards so far
use Rattle.std.proofs.Common.{◌≡◌, map, take}
use Rattle.lrreport.proofs.conflicts.Checked.cards.Given as goal

abbrev pub invariant-loop-meeting : goal.invariant-loop-meeting
invariant-loop-meeting l = map (λ card. card.meeting.now) l.cards.items ≡ map (λ meeting. meeting.now) (take l.meeting-index l.meeting-items)
