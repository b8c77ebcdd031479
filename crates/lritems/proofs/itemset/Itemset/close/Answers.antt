use Rattle.lrspec.proofs.grammars.CanonicalClosures.{start_closes}
use Rattle.lritems.proofs.itemset.Itemset.close.Goals as goal

pub returns-clause-start : goal.returns-clause-start
returns-clause-start g c = λ h. start_closes c.requires.of.shape h c.in_ok-items.ensures.closure
