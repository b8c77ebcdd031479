use Rattle.lrreport.proofs.conflicts.Checked.push_exactness.Goals as goal

pub push_exact-requires : goal.push_exact-requires
push_exact-requires c = record { proved = c.requires.exact c.in-Exact.is }

pub push_exact_but_at_errors-requires : goal.push_exact_but_at_errors-requires
push_exact_but_at_errors-requires c = record { proved = c.requires.but_at_errors c.in-ButAtErrors.is }
