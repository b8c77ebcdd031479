use Rattle.std.specs.Prelude.{◌≡◌, ◌⊎◌, length}
use Rattle.std.specs.List.{All}
use Rattle.lrspec.specs.grammars.Grammar as math
use Rattle.lrclosing.specs.Visits.{IsRuleToDo}
use Rattle.lrclosing.specs.Leads.{AreLeadsOf, AreKeptRows, IsLeadFor, reached_of}
use Rattle.lrclosing.specs.Closer.{AreReached, AreWithin, AreVisited}
use Rattle.lrclosing.proofs.VisitedLeads.{IsLeft}
use Rattle.lrclosing.proofs.closer.visit_leads.Given as goal

abbrev pub invariant-loop-lead : goal.invariant-loop-lead
invariant-loop-lead l = record {
  leads : All (IsLeadFor l.rows) l.leads;
  len : length l.todo ≡ length l.rows;
  visited : (g : math.Grammar) → AreLeadsOf g l.from l.leads → AreKeptRows g l.fn.rows
      → AreVisited g l.from (λ q. IsRuleToDo g l.todo q ⊎ IsLeft g l.from l.leads l.lead-index q) l.fn.rows l.rows l.fn.todo l.todo;
  reached : AreReached (reached_of l.rows) l.reached;
  within : AreWithin l.todo (reached_of l.rows);
}
