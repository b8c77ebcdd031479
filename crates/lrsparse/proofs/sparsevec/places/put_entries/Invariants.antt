-- the entries so far stand in the list, and the other places are as they were
use Rattle.std.proofs.Common.{◌≡◌, ◌≢◌, ◌+◌, ◌<◌, ℕ, length, get_or, slice_index_or}
use Rattle.lrsparse.specs.declared.sparsevec.entries.Entry.{Entry}
use Rattle.lrsparse.specs.Listed.{listed}
use Rattle.lrsparse.proofs.sparsevec.places.put_entries.Given as goal

abbrev pub invariant-loop-column : goal.invariant-loop-column
invariant-loop-column l = record {
  length : length (listed l.list) ≡ length (listed l.initial.list);
  put :
      (past : Entry ℕ) (k : ℕ) (d : ℕ × ℕ) → k < l.column-index
      → slice_index_or (listed l.list) (l.displacement + (get_or l.entries k d).0) past ≡ record { row = l.row; number = (get_or l.entries k d).1 };
  kept :
      (past : Entry ℕ) (p : ℕ) → ((k : ℕ) (d : ℕ × ℕ) → k < l.column-index → p ≢ l.displacement + (get_or l.entries k d).0)
      → slice_index_or (listed l.list) p past ≡ slice_index_or (listed l.initial.list) p past;
}
