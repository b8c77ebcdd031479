use Rattle.std.proofs.Common.{◌≡◌, map, get_or}
use Rattle.lrspec.specs.grammars.Grammar.{IsProductionOf}
use Rattle.lrspec.proofs.grammars.BodyFacts.{below_of_production}
use Rattle.lrclosing.proofs.ProductionsOfRule.{is_listed, number_at, end_mapped}
use Rattle.lrclosing.proofs.LeadsOfRule.{leads_skip, leads_next, leads_every}
use Rattle.lrclosing.proofs.closer.leads_of.Given as given
use Rattle.lrclosing.proofs.closer.leads_of.Goals as goal
use Rattle.lrclosing.proofs.closer.leads_of.Goals.{After-pidx-item, in-Some+in_ok-lead_of+in_ok-push, in_default}

-- the turn's production is one of the rule
is_of : (g : given.Over) (c : After-pidx-item g)
    → IsProductionOf c.args.grm.now (g.T.IndexStorage.number c.pidx-item.result.0) (g.T.IndexStorage.number c.args.rule.0)
is_of g c =
    let number = g.T.IndexStorage.number in
    is_listed number c.args.grm.now c.rule_to_prods-pidx-items.result.now (number c.args.rule.0) c.loop-pidx.pidx-index c.pidx-item.result
    c.rule_to_prods-pidx-items.ensures.prods c.loop-pidx-test.true c.pidx-item.is

pub rule_behind-requires : goal.rule_behind-requires
rule_behind-requires g c = below_of_production c.args.grm.now _ _ (is_of g (goal.at.rule_behind-requires g c).After-pidx-item)

pub lead_of-requires-clause-production : goal.lead_of-requires-clause-production
lead_of-requires-clause-production g c = below_of_production c.args.grm.now _ _ (is_of g (goal.at.lead_of-requires-clause-production g c).After-pidx-item)

pub lead_of-requires-clause-first : goal.lead_of-requires-clause-first
lead_of-requires-clause-first g c =
    let zero : g.T.IndexStorage.number c.unwrap.result ≡ 0 = (rw c.unwrap.ensures at c.from_usize.ensures).1 in
    rw zero at c.in-Some.ensures.found

pub loop-pidx-preserved : goal.loop-pidx-preserved
loop-pidx-preserved g c =
    let number = g.T.IndexStorage.number in
    let xs = c.rule_to_prods-pidx-items.result.now in
    let i = c.loop-pidx.pidx-index in
    let ps = map (λ p. number p.0) xs in
    let p = number c.pidx-item.result.0 in
    let a = number c.args.rule.0 in
    let at : get_or ps i 0 ≡ p = number_at (λ p. number p.0) xs i c.pidx-item.result c.loop-pidx-test.true c.pidx-item.is in
    let is = is_of g (goal.at.loop-pidx-preserved g c).After-pidx-item in
    let zero : number c.unwrap.result ≡ 0 = (rw c.unwrap.ensures at c.from_usize.ensures).1 in
    elim c.match-rule_behind.branch [
      | in-Some+in_ok-lead_of+in_ok-push w ↦
          rw w.leads-is (leads_next c.args.grm.now a i p ps _ _ _ c.loop-pidx.invariant at w.in_ok-push.ensures.items (w.in_ok-lead_of.ensures a is))
      | in_default w ↦ rw w.leads-is (leads_skip c.args.grm.now a i p ps _ c.loop-pidx.invariant at (rw zero at w.in_default.ensures.none))
    ]

pub returns : goal.returns
returns g c =
    let number = g.T.IndexStorage.number in
    let xs = c.rule_to_prods-pidx-items.result.now in
    leads_every c.args.grm.now (number c.args.rule.0) c.loop-pidx.pidx-index (map (λ p. number p.0) xs) _ c.rule_to_prods-pidx-items.ensures.prods
    (end_mapped (λ p. number p.0) xs c.loop-pidx.pidx-index c.loop-pidx-test.false) c.loop-pidx.invariant
