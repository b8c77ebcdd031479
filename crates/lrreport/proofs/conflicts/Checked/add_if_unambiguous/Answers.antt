use Rattle.lrreport.proofs.conflicts.Checked.add_if_unambiguous.Goals as goal

pub add_unambiguous-requires : goal.add_unambiguous-requires
add_unambiguous-requires c = record { proved = c.is_unambiguous.ensures.proved c.if-is_unambiguous.true }
