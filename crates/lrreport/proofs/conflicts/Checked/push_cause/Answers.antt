use Rattle.lrevidence.specs.Ambiguities.{IsProved}
use Rattle.lrevidence.specs.Losses.{IsLostAtEntry}
use Rattle.lrevidence.specs.DecidedEntries.{IsToldDecided}
use Rattle.lrreport.proofs.OneCause.{among}
use Rattle.lrreport.proofs.conflicts.Checked.push_cause.Goals as goal

pub push_notes-requires : goal.push_notes-requires
push_notes-requires c =
    let checked = c.args.self.now in
    let meetings = c.args.cause.now.meetings.items in
    let it = c.in-Some.ensures in
    record {
      proved = c.requires.proved;
      lost = c.requires.lost;
      proved_here = among (IsProved checked.found.now.grm) (λ m. m.now) meetings _ c.requires.proved it;
      lost_here = among (IsLostAtEntry checked.found.now.grm checked.found.now.table) (λ m. m.now) meetings _ c.requires.lost it;
      kept = c.requires.kept;
      entries_here = among (IsToldDecided checked.found.now.grm checked.found.now.graph) (λ m. m.now) meetings _ c.requires.entries it;
    }
