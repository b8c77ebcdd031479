use Rattle.lryacc.specs.BodyPrecedences.IsLastToken.{none}
use Rattle.lryacc.proofs.numbering.Numbering.last_token.Goals as goal

pub loop-part-init : goal.loop-part-init
loop-part-init c = none
