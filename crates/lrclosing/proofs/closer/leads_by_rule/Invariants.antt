use Rattle.std.proofs.Common.{◌≡◌, length}
use Rattle.lrclosing.specs.Leads.{AreLeadsByRule}
use Rattle.lrclosing.proofs.closer.leads_by_rule.Given as goal

abbrev pub invariant-loop-place : goal.invariant-loop-place
invariant-loop-place g l = record {
  len : length l.leads.items ≡ l.place;
  leads : AreLeadsByRule l.grm l.leads.items;
}
