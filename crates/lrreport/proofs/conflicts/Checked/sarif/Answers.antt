use Rattle.lrevidence.specs.Ambiguities.{IsProved}
use Rattle.lrreport.proofs.Groups.{in_group}
use Rattle.lrreport.proofs.conflicts.Checked.sarif.Goals as goal

pub add_conflict_result-requires : goal.add_conflict_result-requires
add_conflict_result-requires c =
    let checked = c.args.self.now in
    record {
      proved = in_group (IsProved checked.found.now.grm) (λ meeting. meeting.now) c.deref-meeting-items.result.now checked.told.evidence.now
          (rw c.deref-meeting-items.ensures.value c.in_ok-meetings.ensures) c.requires.proved
          c.loop-meeting.meeting-index c.meeting-item.result c.loop-meeting-test.true c.meeting-item.is;
    }
