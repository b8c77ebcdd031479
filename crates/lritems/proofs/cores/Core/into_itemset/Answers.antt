use Rattle.std.proofs.Common.{◌∙◌}
use Rattle.lritems.proofs.ListedMaps.{all_yielded, items_of_map}
use Rattle.lritems.proofs.cores.Core.into_itemset.Goals as goal

pub returns : goal.returns
returns g c =
    let ran = c.in_ok-from_iter.ensures.ran in
    let es = c.self.inside.items.items in
    let end = ran.3.2 tt in
    let all = all_yielded es ran.1 ran.0 ran.3.0 end.0 ran.2.0 (ran.2.1 ∙ c.self.inside.items.ok.0) ran.3.1 end.1 in
    items_of_map g.T.IndexStorage.number g.T.Ord.cmp g.met.T.IndexStorage.ordered g.met.T.IndexStorage.injective g.met.T.Ord.total es c.in_ok-from_iter.field-0
    c.self.invariant (rw all at ran.4)
    ∙ c.self.view_is
