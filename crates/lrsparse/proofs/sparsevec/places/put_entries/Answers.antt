use Rattle.std.proofs.Common.{◌≡◌, ◌≢◌, ℕ, ◌+◌, ◌<◌, List, length, slice_set, inl, inr, arith, get_or, get_or-set_same, get_or-set_other}
use Rattle.std.specs.List.Sorted.{IsStrictlyIncreasing}
use Rattle.std.proofs.Math.ListN.{length-set}
use Rattle.std.proofs.lemmas.Bool.{cases_eq}
use Rattle.std.proofs.lemmas.List.{get_or_default}
use Rattle.std.proofs.lemmas.List.Kept.{AllPairs-from_increasing}
use Rattle.lrsparse.specs.declared.sparsevec.entries.Entry.{Entry}
use Rattle.lrsparse.specs.Listed.{listed}
use Rattle.lrsparse.specs.Entries.{columns_in}
use Rattle.lrsparse.proofs.ListedShort.{listed_short}
use Rattle.lrsparse.proofs.EntriesOfRow.{column_at, columns_len}
use Rattle.lrsparse.proofs.sparsevec.places.put_entries.Goals as goal

-- one entry more stands in the list, in another place than those before
put_more :
    (list : List (Entry ℕ)) (es : List (ℕ × ℕ)) (row d i : ℕ) → IsStrictlyIncreasing (columns_in es) → i < length es
    → d + (get_or es i (0, 0)).0 < length list
    → (n : Entry ℕ) → ((k : ℕ) (x : ℕ × ℕ) → k < i → get_or list (d + (get_or es k x).0) n ≡ record { row = row; number = (get_or es k x).1 })
    → (k : ℕ) (x : ℕ × ℕ) → k < i + 1
    → get_or (slice_set list (d + (get_or es i (0, 0)).0) (record { row = row; number = (get_or es i (0, 0)).1 })) (d + (get_or es k x).0) n
    ≡ record { row = row; number = (get_or es k x).1 }
put_more list es row d i up l room n before k x h = elim (cases_eq k i) [
  | inl e ↦
      rw (e, get_or_default es i x (0, 0) l)
      (get_or-set_same list (d + (get_or es i (0, 0)).0) (record { row = row; number = (get_or es i (0, 0)).1 }) n room)
  | inr ne ↦
      let m : k < i = omega arith in
      let below = AllPairs-from_increasing (columns_in es) up k i 0 m (omega (arith, columns_len es)) in
      let apart : d + (get_or es k x).0 ≢ d + (get_or es i (0, 0)).0 =
      omega (arith, below, column_at es k x (omega arith), column_at es i (0, 0) l) in
      rw (get_or-set_other list (d + (get_or es i (0, 0)).0) (d + (get_or es k x).0) (record { row = row; number = (get_or es i (0, 0)).1 }) n apart)
      (before k x m)
]

pub loop-column-preserved : goal.loop-column-preserved
loop-column-preserved c =
    let list = listed c.loop-column.list in
    let es = c.args.entries.now in
    let d = c.args.displacement in
    let i = c.loop-column.column-index in
    let v : Entry ℕ = record { row = c.args.row; number = (get_or es i (0, 0)).1 } in
    let room : d + (get_or es i (0, 0)).0 < length list = omega (arith, c.requires.within i (0, 0) c.loop-column-test.true) in
    rw c.in_ok-set.ensures record {
      length = omega (arith, length-set list (d + (get_or es i (0, 0)).0) v, c.loop-column.invariant.length);
      put = λ n. put_more list es c.args.row d i c.requires.upwards c.loop-column-test.true room n (c.loop-column.invariant.put n);
      kept = λ n p h.
          rw (get_or-set_other list (d + (get_or es i (0, 0)).0) p v n (h i (0, 0) (omega arith)))
          (c.loop-column.invariant.kept n p (λ k x l. h k x (omega arith)));
    }
