use Rattle.lrevidence.specs.Ambiguities.{IsProved}
use Rattle.lrevidence.specs.Losses.{IsLostAtEntry}
use Rattle.lrevidence.specs.DecidedEntries.{IsToldDecided}
use Rattle.lrreport.proofs.Groups.{in_group}
use Rattle.lrreport.proofs.conflicts.Checked.add_conflicts.Goals as goal

pub add_conflict-requires : goal.add_conflict-requires
add_conflict-requires c =
    let checked = c.args.self.now in
    record {
      kept = c.requires.kept;
      proved = in_group (IsProved checked.found.now.grm) (λ group. group.now) c.deref-meeting-items.result.now checked.told.evidence.now
          (rw c.deref-meeting-items.ensures.value c.in-Ok.ensures) c.requires.proved
          c.loop-meeting.meeting-index c.meeting-item.result c.loop-meeting-test.true c.meeting-item.is;
      lost = in_group (IsLostAtEntry checked.found.now.grm checked.found.now.table) (λ group. group.now) c.deref-meeting-items.result.now
          checked.told.evidence.now (rw c.deref-meeting-items.ensures.value c.in-Ok.ensures) c.requires.lost
          c.loop-meeting.meeting-index c.meeting-item.result c.loop-meeting-test.true c.meeting-item.is;
      entries = in_group (IsToldDecided checked.found.now.grm checked.found.now.graph) (λ group. group.now) c.deref-meeting-items.result.now
          checked.told.evidence.now (rw c.deref-meeting-items.ensures.value c.in-Ok.ensures) c.requires.entries
          c.loop-meeting.meeting-index c.meeting-item.result c.loop-meeting-test.true c.meeting-item.is;
    }
