use Rattle.std.proofs.Common.{drop}
use Rattle.lrclosing.specs.ItemsOf.{items_of}
use Rattle.lrclosing.specs.Visits.{IsRuleToDo, IsUnderway}
use Rattle.lrclosing.specs.Leads.{rows_in}
use Rattle.lrclosing.specs.Closer.{IsClosing}
use Rattle.lrclosing.proofs.closer.Closer.visit_given.Given as goal

abbrev pub invariant-loop-key : goal.invariant-loop-key
invariant-loop-key g l =
    let number = g.T.IndexStorage.number in
    record {
      is : IsClosing l.grm l.self;
      underway : IsUnderway l.grm (items_of number l.given) (rows_in l.self.rows.items) (IsRuleToDo l.grm l.self.todo) (items_of number (drop l.key-index l.given));
    }
