use Rattle.lrverdicts.proofs.ExpectedTexts.{expected_of_both}
use Rattle.lrverdicts.proofs.verdicts.WantedDisplay.fmt.Goals as goal

pub returns-in_default-clause-writes : goal.returns-in_default-clause-writes
returns-in_default-clause-writes g c = rw (expected_of_both c.args.self.now.0 c.args.self.now.1 c.in_default.is-0.1 c.in_default.is-1.1) c.write-in_default.ensures.writes
