use Rattle.lrreport.proofs.ToldTexts.{ends_in}
use Rattle.lrreport.proofs.outputs.lines.Goals as goal

pub returns : goal.returns
returns c = λ unfolded. ends_in c.finish.result _ _ _ (c.add_last_line.ensures unfolded) c.finish.ensures.ok
