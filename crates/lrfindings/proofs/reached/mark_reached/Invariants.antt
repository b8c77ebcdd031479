-- what is marked so far is reached, and how much is left to do
use Rattle.std.proofs.Common.{◌+◌, length, map}
use Rattle.lrpager.specs.Collecting.{unmarked_count}
use Rattle.lrfindings.specs.Cells.{has_cell}
use Rattle.lrfindings.proofs.ReachedMarks.{IsMarking}
use Rattle.lrfindings.proofs.reached.mark_reached.Given as goal

abbrev pub invariant-loop-state : goal.invariant-loop-state
invariant-loop-state l = IsMarking (has_cell l.taken) l.graph l.marks (map (λ u. u.0) l.todo.items)

abbrev pub decreases-loop-state : goal.decreases-loop-state
decreases-loop-state l = unmarked_count l.marks + length l.todo.items
