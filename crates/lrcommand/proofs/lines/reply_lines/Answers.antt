use Rattle.lrcommand.proofs.AnsweredLines.{ended_well, however_ended}
use Rattle.lrcommand.proofs.lines.reply_lines.Goals as goal

pub returns-in-Run-clause-all : goal.returns-in-Run-clause-all
returns-in-Run-clause-all g c = rw c.in-Run.is (ended_well c.run_lines.result c.run_lines.ensures.answered)

pub returns-in-Run-clause-beginning : goal.returns-in-Run-clause-beginning
returns-in-Run-clause-beginning g c = rw c.in-Run.is (however_ended c.run_lines.result c.run_lines.ensures.answered)

pub returns-in-Tree-clause-all : goal.returns-in-Tree-clause-all
returns-in-Tree-clause-all g c = rw c.in-Tree.is (ended_well c.tree_lines.result c.tree_lines.ensures.answered)

pub returns-in-Tree-clause-beginning : goal.returns-in-Tree-clause-beginning
returns-in-Tree-clause-beginning g c = rw c.in-Tree.is (however_ended c.tree_lines.result c.tree_lines.ensures.answered)
