use Rattle.lrreport.proofs.WordsOfVerdicts.{shown_so}
use Rattle.lrreport.proofs.conflicts.Checked.is_unambiguous.Goals as goal

pub returns-in_default-clause-told : goal.returns-in_default-clause-told
returns-in_default-clause-told c = shown_so c.args.verdict c.args.self.now.told.is_unambiguous c.in_default.not-Unambiguous

pub returns-in-Unambiguous-clause-proved : goal.returns-in-Unambiguous-clause-proved
returns-in-Unambiguous-clause-proved c = λ told. c.requires.unambiguous c.in-Unambiguous.is
