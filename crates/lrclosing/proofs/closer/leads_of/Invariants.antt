use Rattle.std.proofs.Common.{map}
use Rattle.lrclosing.specs.Leads.{AreLeadsAmong}
use Rattle.lrclosing.proofs.ProductionsOfRule.{IsAmongFirst}
use Rattle.lrclosing.proofs.closer.leads_of.Given as goal

abbrev pub invariant-loop-pidx : goal.invariant-loop-pidx
invariant-loop-pidx g l =
    let number = g.T.IndexStorage.number in
    AreLeadsAmong (IsAmongFirst l.pidx-index (map (λ p. number p.0) l.pidx-items)) l.grm (number l.fn.rule.0) l.leads.items
