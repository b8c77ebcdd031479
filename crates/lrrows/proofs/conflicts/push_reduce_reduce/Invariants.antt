-- the conflicts of the complete items so far are added
use Rattle.std.proofs.Common.{◌≡◌, ◌++◌, map, take}
use Rattle.lrrows.specs.ReduceReduce.{reduce_reduce_by}
use Rattle.lrrows.specs.StoredLists.{stored_reduce_reduces, least_of}
use Rattle.lrrows.proofs.conflicts.push_reduce_reduce.Given as goal

abbrev pub invariant-loop-pidx : goal.invariant-loop-pidx
invariant-loop-pidx g l =
    let number = g.T.IndexStorage.number in
    stored_reduce_reduces number l.conflicts.items
    ≡ stored_reduce_reduces number l.fn.conflicts.items
    ++ reduce_reduce_by (least_of number l.least) (number l.stidx.0) (map (λ c. (number c.0.0, c.1.now)) (take l.pidx-index l.completes))
