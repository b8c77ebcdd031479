use Rattle.std.proofs.Common.{◌≡◌, ◌<◌, length, map, get_or, arith}
use Rattle.lrclosing.proofs.ProductionsOfRule.{listed_below, number_at, end_mapped, among_none}
use Rattle.lrclosing.proofs.ProductionsWithRows.{in_range_next, in_range_every}
use Rattle.lrclosing.proofs.listing.with_productions.Goals as goal

pub loop-pidx-init : goal.loop-pidx-init
loop-pidx-init g c = record { has = λ q h. absurd (among_none _ q h); kept = λ q h. h; first = omega arith; last = λ h. h }

pub loop-pidx-preserved : goal.loop-pidx-preserved
loop-pidx-preserved g c =
    let number = g.T.IndexStorage.number in
    let xs = c.rule_to_prods-pidx-items.result.now in
    let i = c.loop-pidx.pidx-index in
    let p = number c.pidx-item.result.0 in
    let ps = map (λ p. number p.0) xs in
    let at : get_or ps i 0 ≡ p = number_at (λ p. number p.0) xs i c.pidx-item.result c.loop-pidx-test.true c.pidx-item.is in
    let below : p < length c.args.grm.now.productions =
    listed_below number c.args.grm.now xs (number c.args.rule.0) i c.pidx-item.result c.rule_to_prods-pidx-items.ensures.prods c.loop-pidx-test.true c.pidx-item.is in
    let w = rw c.from.ensures at c.widened-found.ensures in
    record {
      has = in_range_next c.loop-pidx.found c.widened-found.result ps i p at w.here w.kept c.loop-pidx.invariant.has;
      kept = λ q h. w.kept q (c.loop-pidx.invariant.kept q h);
      first = omega (arith, w.first, c.loop-pidx.invariant.first);
      last = λ h. w.last (length c.args.grm.now.productions) (c.loop-pidx.invariant.last h) below;
    }

pub returns-clause-has : goal.returns-clause-has
returns-clause-has g c =
    let number = g.T.IndexStorage.number in
    let xs = c.rule_to_prods-pidx-items.result.now in
    in_range_every c.args.grm.now c.loop-pidx.found (map (λ p. number p.0) xs) (number c.args.rule.0) c.loop-pidx.pidx-index c.rule_to_prods-pidx-items.ensures.prods
    (end_mapped (λ p. number p.0) xs c.loop-pidx.pidx-index c.loop-pidx-test.false) c.loop-pidx.invariant.has
