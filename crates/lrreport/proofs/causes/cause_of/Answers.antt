use Rattle.std.proofs.lemmas.List.{take_all}
use Rattle.lrreport.specs.declared.causes.Cause.{Cause}
use Rattle.lrreport.proofs.OneCause.{are_one_cause}
use Rattle.lrreport.proofs.causes.cause_of.Goals as goal

pub returns-clause-alike : goal.returns-clause-alike
returns-clause-alike c =
    let cause : Cause = record { meetings = c.loop-meeting.list } in
    are_one_cause c.args.first.now c.args.meetings.now cause c.requires.alike c.requires.met
    (rw (take_all c.loop-meeting.meeting-index c.args.meetings.now c.loop-meeting-test.false) at c.loop-meeting.invariant)
