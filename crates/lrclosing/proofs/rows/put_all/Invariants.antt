use Rattle.std.proofs.Common.{length, map}
use Rattle.lrclosing.specs.ItemsOf.{items_of, HaveBits}
use Rattle.lrclosing.specs.Rows.{ArePut}
use Rattle.lrclosing.proofs.ProductionsOfRule.{IsAmongFirst}
use Rattle.lrclosing.proofs.rows.put_all.Given as goal

abbrev pub invariant-loop-pidx : goal.invariant-loop-pidx
invariant-loop-pidx g l =
    let number = g.T.IndexStorage.number in
    let ps = map (λ p. number p.0) l.pidx-items in
    record {
      bits : HaveBits (length l.ctx) (items_of number l.closed.entries);
      put : ArePut (IsAmongFirst l.pidx-index ps) l.ctx (items_of number l.fn.closed.entries) (items_of number l.closed.entries);
    }
