use Rattle.lryacc.proofs.DeclarationsRead.{listed-none, tag-takes}
use Rattle.lryacc.proofs.reader.Reader.take_tag.Goals as goal

pub returns-then-is_some-clause-listed : goal.returns-then-is_some-clause-listed
returns-then-is_some-clause-listed c = listed-none c.args.self.now

pub returns-in_default-clause-listed : goal.returns-in_default-clause-listed
returns-in_default-clause-listed c = tag-takes c.take.result c.take.ensures.taken c.take.ensures.statements

pub returns-clause-listed : goal.returns-clause-listed
returns-clause-listed c = tag-takes c.take.result c.take.ensures.taken c.take.ensures.statements
