use Rattle.std.proofs.Common.{◌+◌, length}
use Rattle.lrpager.specs.Collecting.{unmarked_count}
use Rattle.lrpager.proofs.ReachedMarks.{IsMarking}
use Rattle.lrpager.proofs.pager.collecting.mark_reached.Given as goal

abbrev pub invariant-loop-k : goal.invariant-loop-k
invariant-loop-k g l = IsMarking l.drafts l.marks l.todo.items

abbrev pub decreases-loop-k : goal.decreases-loop-k
decreases-loop-k g l = unmarked_count l.marks + length l.todo.items
