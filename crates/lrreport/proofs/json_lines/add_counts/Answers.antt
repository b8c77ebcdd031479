use Rattle.lrreport.proofs.AddedTokens.{adds_both}
use Rattle.lrreport.proofs.json_lines.add_counts.Goals as goal

pub returns : goal.returns
returns c = adds_both c.number_at.ensures c.number_at-2.ensures
