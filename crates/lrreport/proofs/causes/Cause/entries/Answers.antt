use Rattle.std.proofs.Common.{◌≡◌, ◌<◌, ◌≤◌, ◌∙◌, ap, arith, get_or, length}
use Rattle.std.proofs.lemmas.List.{take_all}
use Rattle.lrreport.proofs.OneCause.{one_state_more}
use Rattle.lrreport.proofs.causes.Cause.entries.Goals as goal

pub loop-meeting-preserved : goal.loop-meeting-preserved
loop-meeting-preserved c =
    let meetings = c.args.self.now.meetings.items in
    let index = c.loop-meeting.meeting-index in
    let meeting = c.meeting-item.result in
    let value = c.deref-meeting-items.ensures.value in
    let below : index < length meetings = omega (arith, ap length value) in
    let at : meeting ≡ get_or meetings index meeting = c.meeting-item.is ∙ ap (λ xs. get_or xs index meeting) value in
    rw (c.in_ok-extend_from_slice.ensures.items, c.as_slice.ensures.value, c.in_ok-met.ensures, c.loop-meeting.invariant)
    (one_state_more (λ m. m.now) (λ e. e.entry) meetings index meeting below at)

pub returns : goal.returns
returns c =
    let meetings = c.args.self.now.meetings.items in
    let behind : length meetings ≤ c.loop-meeting.meeting-index = omega (arith, ap length c.deref-meeting-items.ensures.value) in
    rw (take_all c.loop-meeting.meeting-index meetings behind) at c.loop-meeting.invariant
