use Rattle.std.proofs.Common.{refl}
use Rattle.lritems.proofs.ItemsUpwards.{upwards_from_sorted}
use Rattle.lrgraphs.proofs.EdgeFacts.{by_kinds}
use Rattle.lrgraphs.proofs.DistinctSymbols.{distinct_entries}
use Rattle.lrgraphs.proofs.stategraph.State.in_order.Goals as goal

pub returns : goal.returns
returns g c =
    let number = g.T.IndexStorage.number in
    let ordered = g.met.T.IndexStorage.ordered in
    let s = c.args.self.now in
    record {
      core = upwards_from_sorted number g.T.Ord.cmp ordered s.core.items.entries c.len.ensures.ordered;
      closed = upwards_from_sorted number g.T.Ord.cmp ordered s.closed.items.entries c.len-2.ensures.ordered;
      edges =
          distinct_entries number (λ u. number u.0) _ (by_kinds number _ (λ r s. ordered r.0 s.0) (λ r t. refl) (λ t r. refl) (λ t u. ordered t.0 u.0))
          s.edges.entries c.len-3.ensures.ordered;
    }
