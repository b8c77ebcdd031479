use Rattle.std.proofs.Common.{◌≡◌, ◌<◌, ◌+◌, length, map, get_or, arith}
use Rattle.lrclosing.proofs.ProductionsOfRule.{is_listed, number_at, below_mapped, end_mapped}
use Rattle.lrclosing.proofs.ProductionsWithRows.{offset_none, offset_this, offset_every}
use Rattle.lrclosing.proofs.listing.mark_from.Goals as goal

pub loop-pidx-init : goal.loop-pidx-init
loop-pidx-init g c = offset_none c.args.from _ _

pub overflow_sub-from : goal.overflow_sub-from
overflow_sub-from g c =
    let number = g.T.IndexStorage.number in
    let xs = c.rule_to_prods-pidx-items.result.now in
    let i = c.loop-pidx.pidx-index in
    let within = c.requires.within (number c.pidx-item.result.0) (is_listed number c.args.grm.now xs (number c.args.rule.0) i c.pidx-item.result
    c.rule_to_prods-pidx-items.ensures.prods c.loop-pidx-test.true c.pidx-item.is) in
    omega (arith, within.0, c.from.ensures)

pub set-requires : goal.set-requires
set-requires g c =
    let number = g.T.IndexStorage.number in
    let xs = c.rule_to_prods-pidx-items.result.now in
    let i = c.loop-pidx.pidx-index in
    let within = c.requires.within (number c.pidx-item.result.0) (is_listed number c.args.grm.now xs (number c.args.rule.0) i c.pidx-item.result
    c.rule_to_prods-pidx-items.ensures.prods c.loop-pidx-test.true c.pidx-item.is) in
    omega (arith, within.0, within.1, c.from.ensures, c.loop-pidx.invariant.len)

pub loop-pidx-preserved : goal.loop-pidx-preserved
loop-pidx-preserved g c =
    let number = g.T.IndexStorage.number in
    let xs = c.rule_to_prods-pidx-items.result.now in
    let i = c.loop-pidx.pidx-index in
    let p = number c.pidx-item.result.0 in
    let ps = map (λ p. number p.0) xs in
    let lt : i < length ps = below_mapped (λ p. number p.0) xs i c.loop-pidx-test.true in
    let at : get_or ps i 0 ≡ p = number_at (λ p. number p.0) xs i c.pidx-item.result c.loop-pidx-test.true c.pidx-item.is in
    let within = c.requires.within p (is_listed number c.args.grm.now xs (number c.args.rule.0) i c.pidx-item.result
    c.rule_to_prods-pidx-items.ensures.prods c.loop-pidx-test.true c.pidx-item.is) in
    let high : p < c.args.from + length c.loop-pidx.bits = omega (arith, within.1, c.loop-pidx.invariant.len) in
    offset_this c.args.from ps i p _ _ _ c.loop-pidx.invariant (rw c.from.ensures at c.set.ensures.after) within.0 high lt at

pub returns : goal.returns
returns g c =
    let number = g.T.IndexStorage.number in
    let xs = c.rule_to_prods-pidx-items.result.now in
    offset_every c.args.grm.now c.args.from (map (λ p. number p.0) xs) (number c.args.rule.0) c.loop-pidx.pidx-index _ _ c.rule_to_prods-pidx-items.ensures.prods
    (end_mapped (λ p. number p.0) xs c.loop-pidx.pidx-index c.loop-pidx-test.false) c.loop-pidx.invariant
