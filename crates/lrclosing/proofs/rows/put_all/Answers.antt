use Rattle.std.proofs.Common.{◌≡◌, ◌<◌, length, map, get_or}
use Rattle.lrclosing.proofs.ProductionsOfRule.{number_at, below_mapped, end_mapped}
use Rattle.lrclosing.proofs.RowsAdded.{put_no_more, put_this, put_every}
use Rattle.lrclosing.proofs.rows.put_all.Goals as goal

pub loop-pidx-init : goal.loop-pidx-init
loop-pidx-init g c = record { bits = c.requires.bits; put = put_no_more _ _ _ }

pub loop-pidx-preserved : goal.loop-pidx-preserved
loop-pidx-preserved g c =
    let number = g.T.IndexStorage.number in
    let xs = c.rule_to_prods-pidx-items.result.now in
    let i = c.loop-pidx.pidx-index in
    let ps = map (λ p. number p.0) xs in
    let lt : i < length ps = below_mapped (λ p. number p.0) xs i c.loop-pidx-test.true in
    let at : get_or ps i 0 ≡ number c.pidx-item.result.0 = number_at (λ p. number p.0) xs i c.pidx-item.result c.loop-pidx-test.true c.pidx-item.is in
    record {
      bits = c.in_ok-put.ensures.bits;
      put = put_this ps i (number c.pidx-item.result.0) c.args.ctx.now _ _ _ c.loop-pidx.invariant.put c.in_ok-put.ensures.put lt at;
    }

pub returns-clause-put : goal.returns-clause-put
returns-clause-put g c =
    let number = g.T.IndexStorage.number in
    let xs = c.rule_to_prods-pidx-items.result.now in
    put_every c.args.grm.now (map (λ p. number p.0) xs) (number c.args.rule.0) c.loop-pidx.pidx-index c.args.ctx.now _ _ c.rule_to_prods-pidx-items.ensures.prods
    (end_mapped (λ p. number p.0) xs c.loop-pidx.pidx-index c.loop-pidx-test.false) c.loop-pidx.invariant.put
