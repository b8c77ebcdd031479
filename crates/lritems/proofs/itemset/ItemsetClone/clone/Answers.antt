use Rattle.std.proofs.Common.{sym}
use Rattle.std.proofs.lemmas.Map.Entries.{entries_from_clone}
use Rattle.lrclosing.proofs.ItemKeys.{same_key}
use Rattle.lritems.proofs.itemset.ItemsetClone.clone.Goals as goal

pub returns : goal.returns
returns g c = record { cases = entries_from_clone _ _ (λ x y k. same_key g.T.Clone.is_clone g.met.T.IndexStorage.copied x y k.0 k.1) (λ v w e. sym e) _ _ c.in_ok-clone.ensures.cases }
