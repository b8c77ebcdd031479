use Rattle.lrreport.proofs.conflicts.Checked.push_plain_verdict.Goals as goal

pub push_unambiguous-requires : goal.push_unambiguous-requires
push_unambiguous-requires c = record { proved = c.requires.unambiguous c.in-Unambiguous.is }
