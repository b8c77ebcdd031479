-- entries that were added to a list, and sorted
use Rattle.std.proofs.Common.{◌≡◌, ℕ, List, ◌++◌, map, refl}
use Rattle.std.proofs.lemmas.Simd.{map-map}
use Rattle.std.proofs.lemmas.List.Sorted.{IsPermutation-map}
use Rattle.std.proofs.lemmas.List.{append_assoc}
use Rattle.std.specs.List.Sorted.{IsPermutation}
use Rattle.lrgrammar.specs.declared.idx.PIdx.{PIdx}
use Rattle.lrgrammar.specs.declared.idx.StIdx.{StIdx}
use Rattle.lrgrammar.specs.declared.idx.TIdx.{TIdx}
use Rattle.lrspec.specs.tables.Table.{Lists}
use Rattle.lrrows.specs.StoredLists.{stored_shift_reduce, stored_shift_reduces, stored_reduce_reduce, stored_reduce_reduces}
use Rattle.lrverdicts.specs.declared.conflicts.Entry.{Entry}
use Rattle.lrgrammar.specs.Symbols.{number_of}
use Rattle.lrverdicts.specs.Listed.{Listing, told, listed, shift_listing, reduction_listing}

-- those of the first list, and then those of the second, are those of both
pub both_added :
    (k : Lists) (ms : List (TIdx ℕ × PIdx ℕ × StIdx ℕ)) (ps : List (TIdx ℕ × PIdx ℕ × PIdx ℕ × StIdx ℕ))
    (old mid new : List Listing)
    → stored_shift_reduces number_of ms ≡ k.shift_reduce → stored_reduce_reduces number_of ps ≡ k.reduce_reduce
    → mid ≡ old ++ map (λ c. shift_listing (stored_shift_reduce number_of c)) ms
    → new ≡ mid ++ map (λ c. reduction_listing (stored_reduce_reduce number_of c)) ps
    → new ≡ old ++ listed k
both_added k ms ps old mid new i j e f =
    rw (
      f,
      e,
      ← i,
      ← j,
      map-map shift_listing (stored_shift_reduce number_of) ms,
      map-map reduction_listing (stored_reduce_reduce number_of) ps,
      append_assoc old (map (λ c. shift_listing (stored_shift_reduce number_of c)) ms) (map (λ c. reduction_listing (stored_reduce_reduce number_of c)) ps),
    ) refl

-- entries stay those of a list when they are sorted
pub sorted_entries : (l : List Listing) (xs ys : List Entry) → map told xs ≡ l → IsPermutation xs ys → IsPermutation l (map told ys)
sorted_entries l xs ys e p = rw (← e) (IsPermutation-map told xs ys p)
