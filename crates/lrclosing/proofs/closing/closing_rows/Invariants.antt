use Rattle.std.proofs.Common.{◌≤◌, [], length}
use Rattle.lrspec.specs.grammars.Grammar as math
use Rattle.lrclosing.specs.ItemsOf.{items_of}
use Rattle.lrclosing.specs.Visits.{AreShaped, IsToDo, IsUnderway, visits_left}
use Rattle.lrclosing.proofs.closing.closing_rows.Given as goal

abbrev pub invariant-loop-pidx : goal.invariant-loop-pidx
invariant-loop-pidx g l =
    let number = g.T.IndexStorage.number in
    record {
      shaped : AreShaped l.grm l.closing.rows.items l.closing.todo;
      underway : IsUnderway l.grm (items_of number l.given.entries) l.closing.rows.items (IsToDo l.closing.todo) [];
      place : l.from ≤ length l.closing.todo;
    }

abbrev pub decreases-loop-pidx : goal.decreases-loop-pidx
decreases-loop-pidx g l = visits_left (math.token_count l.grm) l.closing.rows.items l.closing.todo
