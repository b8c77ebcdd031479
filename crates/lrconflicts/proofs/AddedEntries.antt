-- entries that were added to a list
use Rattle.std.proofs.Common.{◌≡◌, ℕ, List, [], ◌++◌, map, refl}
use Rattle.std.proofs.lemmas.Simd.{map-map}
use Rattle.lrgrammar.specs.declared.idx.PIdx.{PIdx}
use Rattle.lrgrammar.specs.declared.idx.StIdx.{StIdx}
use Rattle.lrgrammar.specs.declared.idx.TIdx.{TIdx}
use Rattle.lrspec.specs.tables.Table.{Lists}
use Rattle.lrrows.specs.StoredLists.{stored_shift_reduce, stored_shift_reduces, stored_reduce_reduce, stored_reduce_reduces}
use Rattle.lrconflicts.specs.Entries.{Entry, ShiftReduce, ReduceReduce, entries_of}

-- those of the first list, and then those of the second, are those of both
pub both_added :
    {T : Type 0} (number : T → ℕ) (k : Lists) (ms : List (TIdx T × PIdx T × StIdx T)) (ps : List (TIdx T × PIdx T × PIdx T × StIdx T))
    (mid new : List Entry)
    → stored_shift_reduces number ms ≡ k.shift_reduce → stored_reduce_reduces number ps ≡ k.reduce_reduce
    → mid ≡ map (λ e. ShiftReduce (stored_shift_reduce number e)) ms
    → new ≡ mid ++ map (λ e. ReduceReduce (stored_reduce_reduce number e)) ps
    → new ≡ entries_of k
both_added number k ms ps mid new i j e f =
    rw (f, e, ← i, ← j, map-map (λ x. ShiftReduce x) (stored_shift_reduce number) ms, map-map (λ x. ReduceReduce x) (stored_reduce_reduce number) ps) refl
