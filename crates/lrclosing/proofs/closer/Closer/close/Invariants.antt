use Rattle.std.proofs.Common.{[]}
use Rattle.lrspec.specs.grammars.Grammar as math
use Rattle.lrclosing.specs.ItemsOf.{items_of}
use Rattle.lrclosing.specs.Visits.{IsRuleToDo, IsUnderway, visits_left}
use Rattle.lrclosing.specs.Leads.{rows_in}
use Rattle.lrclosing.specs.Closer.{IsClosing}
use Rattle.lrclosing.proofs.closer.Closer.close.Given as goal

abbrev pub invariant-loop-k : goal.invariant-loop-k
invariant-loop-k g l =
    let number = g.T.IndexStorage.number in
    record {
      is : IsClosing l.grm l.self;
      underway : IsUnderway l.grm (items_of number l.given) (rows_in l.self.rows.items) (IsRuleToDo l.grm l.self.todo) [];
    }

abbrev pub decreases-loop-k : goal.decreases-loop-k
decreases-loop-k g l = visits_left (math.token_count l.grm) (rows_in l.self.rows.items) l.self.todo
