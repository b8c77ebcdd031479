-- the edges that are left are those of the state, and those that stay lead to marked states, or are left
use Rattle.std.proofs.Common.{map}
use Rattle.lrspec.specs.merging.Graph.{edge}
use Rattle.lrgrammar.specs.Symbols.{number_of}
use Rattle.lrgraphs.specs.GraphOf.{edges_of}
use Rattle.lrgraphs.proofs.FoundEdges.{FoundAll}
use Rattle.lrpager.specs.Collecting.{MarksOnly}
use Rattle.lrfindings.specs.Cells.{has_cell}
use Rattle.lrfindings.specs.ReachedStates.{StaysTo}
use Rattle.lrfindings.proofs.ReachedMarks.{AreFollowed}
use Rattle.lrfindings.proofs.reached.mark_targets.Given as goal

abbrev pub invariant-loop-symbol : goal.invariant-loop-symbol
invariant-loop-symbol l =
    let taken = has_cell l.taken in
    record {
      found : FoundAll number_of (λ x. edge l.graph l.fn.from.0 x) l.symbol-iterator;
      only : MarksOnly (StaysTo taken l.graph l.fn.from.0) l.initial.marks (map (λ u. u.0) l.initial.todo.items) l.marks (map (λ u. u.0) l.todo.items);
      followed : AreFollowed taken l.graph l.fn.from.0 l.marks (edges_of number_of (λ u. number_of u.0) l.symbol-iterator);
    }
