use Rattle.lrreport.proofs.conflicts.Checked.push_decided_or_unknown.Goals as goal

pub push_yet_unambiguous-requires : goal.push_yet_unambiguous-requires
push_yet_unambiguous-requires c = record { proved = c.requires.yet_unambiguous c.if-self.true }
