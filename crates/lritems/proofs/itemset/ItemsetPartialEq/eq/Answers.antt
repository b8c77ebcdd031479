use Rattle.lritems.proofs.EqualItemSets.{agree_from_eq, apart_from_len}
use Rattle.lritems.proofs.itemset.ItemsetPartialEq.eq.Goals as goal

pub returns-then-len-clause-agree : goal.returns-then-len-clause-agree
returns-then-len-clause-agree g c =
    let t = g.T.IndexStorage in
    let law = g.met.T.IndexStorage in
    agree_from_eq t.number g.T.Ord.cmp law.ordered law.injective g.met.T.Ord.total g.T.PartialEq.eq law.same c.args.self.now.items c.args.other.now.items c.len.ensures.ordered c.len-2.ensures.ordered
    _ c.eq.ensures

pub returns-else-len-clause-agree : goal.returns-else-len-clause-agree
returns-else-len-clause-agree g c =
    let t = g.T.IndexStorage in
    let law = g.met.T.IndexStorage in
    apart_from_len t.number g.T.Ord.cmp law.ordered law.injective g.met.T.Ord.total g.T.PartialEq.eq law.same c.args.self.now.items c.args.other.now.items c.len.ensures.ordered c.len-2.ensures.ordered
    _ _ c.len.ensures.len c.len-2.ensures.len c.if-len.false
