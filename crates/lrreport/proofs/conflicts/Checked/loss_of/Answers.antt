use Rattle.lrevidence.specs.Losses.{IsLostAtEntry}
use Rattle.lrreport.proofs.OneCause.{among}
use Rattle.lrreport.proofs.conflicts.Checked.loss_of.Goals as goal

pub loss_in-requires-2 : goal.loss_in-requires-2
loss_in-requires-2 c =
    let found = c.args.self.now.found.now in
    record {
      lost = among (IsLostAtEntry found.grm found.table) (λ m. m.now) c.args.cause.now.meetings.items _ c.requires.lost c.in_ok-meeting.ensures;
    }
