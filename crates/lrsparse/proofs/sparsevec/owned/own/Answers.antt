use Rattle.lrsparse.proofs.OwnedBits.{owned_more}
use Rattle.lrsparse.proofs.sparsevec.owned.own.Goals as goal

pub returns : goal.returns
returns c = owned_more c.args.words.now c.args.place c.requires
