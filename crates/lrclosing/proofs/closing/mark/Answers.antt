use Rattle.std.proofs.Common.{◌≡◌, ◌<◌, length, map, get_or, arith}
use Rattle.lrclosing.proofs.ProductionsOfRule.{listed_below, number_at, below_mapped, end_mapped}
use Rattle.lrclosing.proofs.MarkedProductions.{mark_none, mark_this, mark_every}
use Rattle.lrclosing.proofs.closing.mark.Goals as goal

pub loop-pidx-init : goal.loop-pidx-init
loop-pidx-init g c = mark_none _ _

pub set-requires : goal.set-requires
set-requires g c =
    let number = g.T.IndexStorage.number in
    let below = listed_below number c.args.grm.now c.rule_to_prods-pidx-items.result.now (number c.args.rule.0) c.loop-pidx.pidx-index c.pidx-item.result
    c.rule_to_prods-pidx-items.ensures.prods c.loop-pidx-test.true c.pidx-item.is in
    omega (arith, below, c.from.ensures, c.loop-pidx.invariant.len, c.requires.productions)

pub loop-pidx-preserved : goal.loop-pidx-preserved
loop-pidx-preserved g c =
    let number = g.T.IndexStorage.number in
    let xs = c.rule_to_prods-pidx-items.result.now in
    let i = c.loop-pidx.pidx-index in
    let p = number c.pidx-item.result.0 in
    let ps = map (λ p. number p.0) xs in
    let lt : i < length ps = below_mapped (λ p. number p.0) xs i c.loop-pidx-test.true in
    let at : get_or ps i 0 ≡ p = number_at (λ p. number p.0) xs i c.pidx-item.result c.loop-pidx-test.true c.pidx-item.is in
    let below = listed_below number c.args.grm.now xs (number c.args.rule.0) i c.pidx-item.result c.rule_to_prods-pidx-items.ensures.prods c.loop-pidx-test.true c.pidx-item.is in
    let within : p < length c.loop-pidx.todo = omega (arith, below, c.loop-pidx.invariant.len, c.requires.productions) in
    mark_this ps i p _ _ _ c.loop-pidx.invariant (rw c.from.ensures at c.set.ensures.after) within lt at

pub returns : goal.returns
returns g c =
    let number = g.T.IndexStorage.number in
    let xs = c.rule_to_prods-pidx-items.result.now in
    mark_every c.args.grm.now (map (λ p. number p.0) xs) (number c.args.rule.0) c.loop-pidx.pidx-index _ _ c.rule_to_prods-pidx-items.ensures.prods
    (end_mapped (λ p. number p.0) xs c.loop-pidx.pidx-index c.loop-pidx-test.false) c.loop-pidx.invariant
