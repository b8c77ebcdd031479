-- the columns of the words so far are among the others
use Rattle.std.proofs.Common.{◌≡◌, ◌<◌, ◌+◌, ◌*◌, ℕ, slice_index}
use Rattle.std.specs.Int.{bit_at}
use Rattle.lrsparse.specs.Starts.{IsIn}
use Rattle.lrsparse.proofs.sparsevec.starts.ColumnSet.is_among.Given as goal

abbrev pub invariant-loop-index : goal.invariant-loop-index
invariant-loop-index l =
    (l.others.first + l.place ≡ l.self.first + 64 * l.index)
    × ((j i : ℕ) → j < l.index → i < 64 → bit_at (slice_index l.self.words.items j) i ≡ 1
    → IsIn l.others (l.self.first + 64 * j + i))
