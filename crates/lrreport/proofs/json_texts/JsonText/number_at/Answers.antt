use Rattle.lrreport.proofs.AddedTokens.{adds_both}
use Rattle.lrreport.proofs.json_texts.JsonText.number_at.Goals as goal

pub returns : goal.returns
returns c = adds_both c.key.ensures c.number.ensures
