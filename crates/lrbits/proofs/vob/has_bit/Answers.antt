use Rattle.lrbits.proofs.WordBits.{tested}
use Rattle.lrbits.proofs.vob.has_bit.Goals as goal

pub returns : goal.returns
returns c = tested c.args.word c.args.place
