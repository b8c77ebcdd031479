use Rattle.std.proofs.Common.{◌∙◌, ap, map}
use Rattle.std.proofs.lemmas.List.{take_all}
use Rattle.lrreport.proofs.Groups.{same_joined}
use Rattle.lrreport.proofs.conflicts.Checked.cards.Goals as goal

pub returns : goal.returns
returns c =
    let told = take_all c.loop-meeting.meeting-index c.deref-meeting-items.result.now c.loop-meeting-test.false in
    let same = c.loop-meeting.invariant ∙ ap (map (λ meeting. meeting.now)) told in
    same_joined (λ card. card.meeting.now) (λ meeting. meeting.now) c.loop-meeting.cards.items c.deref-meeting-items.result.now same
    ∙ rw c.deref-meeting-items.ensures.value c.in_ok-meetings.ensures
