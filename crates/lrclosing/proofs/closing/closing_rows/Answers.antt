use Rattle.std.proofs.Common.{◌<◌, length, arith, []}
use Rattle.lrspec.specs.grammars.Grammar.{token_count}
use Rattle.lrclosing.proofs.ClosingUnderway.{next_production, end_underway}
use Rattle.lrclosing.proofs.MarkedProductions.{below_of_bit, some_rule}
use Rattle.lrclosing.proofs.VisitedItems.{shaped_taken}
use Rattle.lrclosing.proofs.VisitsLeft.{left_by_taking}
use Rattle.lrclosing.proofs.closing.closing_rows.Goals as goal

pub loop-pidx-init : goal.loop-pidx-init
loop-pidx-init g c = record { shaped = c.in_ok-visit_given.ensures.shaped; underway = c.in_ok-visit_given.ensures.underway; place = omega arith }

pub visit_production-requires-clause-production : goal.visit_production-requires-clause-production
visit_production-requires-clause-production g c =
    let number = g.T.IndexStorage.number in
    let within = below_of_bit c.loop-pidx.closing.todo (number c.in-Some.pidx.0) c.in-Some.ensures.was in
    omega (arith, within, c.loop-pidx.invariant.shaped.of_productions)

pub visit_production-requires-clause-shaped : goal.visit_production-requires-clause-shaped
visit_production-requires-clause-shaped g c =
    let number = g.T.IndexStorage.number in
    rw c.in-Some.ensures.taken (shaped_taken c.args.grm.now _ c.loop-pidx.closing.todo (number c.in-Some.pidx.0) c.loop-pidx.invariant.shaped)

pub loop-pidx-smaller : goal.loop-pidx-smaller
loop-pidx-smaller g c =
    let number = g.T.IndexStorage.number in
    let fewer = left_by_taking (token_count c.args.grm.now) (number c.in-Some.pidx.0) c.loop-pidx.closing.rows.items c.loop-pidx.closing.todo c.in-Some.ensures.was in
    let less = rw c.in-Some.ensures.taken at c.in_ok-visit_production.ensures.left in
    omega (arith, fewer, less)

pub loop-pidx-preserved : goal.loop-pidx-preserved
loop-pidx-preserved g c =
    let number = g.T.IndexStorage.number in
    let p = number c.in-Some.pidx.0 in
    let todo = c.loop-pidx.closing.todo in
    let within = below_of_bit todo p c.in-Some.ensures.was in
    let below : p < length c.args.grm.now.productions = omega (arith, within, c.loop-pidx.invariant.shaped.of_productions) in
    let rule = some_rule c.args.grm.now p below in
    let visited = c.in_ok-visit_production.ensures.visited rule.0 rule.1 in
    record {
      shaped = c.in_ok-visit_production.ensures.shaped;
      underway = next_production c.args.grm.now _ _ _ todo _ p rule.0 [] c.loop-pidx.invariant.underway c.in-Some.ensures.was rule.1 (rw c.in-Some.ensures.taken at visited);
      place = omega (arith, below, c.to_usize-from.ensures.number, c.in_ok-visit_production.ensures.shaped.of_productions);
    }

pub returns : goal.returns
returns g c = record {
  rows = record {
    shaped = c.loop-pidx.invariant.shaped.of_rules;
    closure = λ d w. end_underway c.args.grm.now _ d _ _ c.loop-pidx.invariant.underway c.in_default.ensures.none w;
    behind = c.loop-pidx.invariant.underway.behind;
  };
}
