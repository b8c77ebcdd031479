use Rattle.lrreport.proofs.OneCause.{meet_together}
use Rattle.lrreport.proofs.conflicts.Checked.meeting.Goals as goal

pub returns-clause-met : goal.returns-clause-met
returns-clause-met c = meet_together c.args.first.now.entry _ c.args.evidence.now c.requires c.in_ok-tokens.ensures
