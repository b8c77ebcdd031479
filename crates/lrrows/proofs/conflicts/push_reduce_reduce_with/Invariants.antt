-- the tokens that are left give what is to be added yet
use Rattle.std.proofs.Common.{◌≡◌, ℕ, ◌<◌, ◌++◌, length}
use Rattle.std.specs.List.{filter_map}
use Rattle.lrspec.proofs.grammars.ListMembers.{Among}
use Rattle.lrrows.specs.ReduceReduce.{reduce_reduce_by_item}
use Rattle.lrrows.specs.StoredLists.{stored_reduce_reduces, least_of}
use Rattle.lrrows.proofs.ConflictSteps.{reduce_reduce_on}
use Rattle.lrrows.proofs.conflicts.push_reduce_reduce_with.Given as goal

abbrev pub invariant-loop-token : goal.invariant-loop-token
invariant-loop-token g l =
    let number = g.T.IndexStorage.number in
    record {
      below : (t : ℕ) → Among t l.token-iterator → t < length l.least;
      added :
          stored_reduce_reduces number l.conflicts.items
          ++ filter_map (reduce_reduce_on (least_of number l.least) (number l.stidx.0) (number l.pidx.0)) l.token-iterator
          ≡ stored_reduce_reduces number l.fn.conflicts.items ++ reduce_reduce_by_item (least_of number l.least) (number l.stidx.0) (number l.pidx.0, l.ctx);
    }
