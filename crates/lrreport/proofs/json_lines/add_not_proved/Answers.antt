use Rattle.lrreport.proofs.AddedTokens.{adds_both}
use Rattle.lrreport.proofs.json_lines.add_not_proved.Goals as goal

pub returns : goal.returns
returns c = adds_both c.key.ensures (adds_both c.begin_array.ensures c.end_array.ensures)
