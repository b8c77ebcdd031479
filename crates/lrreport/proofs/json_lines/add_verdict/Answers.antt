use Rattle.lrreport.proofs.AddedTokens.{adds_both}
use Rattle.lrreport.proofs.json_lines.add_verdict.Goals as goal

pub returns : goal.returns
returns c = adds_both c.string_at.ensures c.string_at-2.ensures
