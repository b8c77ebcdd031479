use Rattle.std.proofs.Common.{◌≡◌, ◌≢◌, ◌↔◌, ◌⊎◌, ◌≤◌, ◌/◌, ◌-◌, ◌<◌, ◌+◌, ◌^◌, ◌∙◌, ℕ, ◌++◌, Some, length, take, drop, slice_index, refl, sym, ap, inl, inr, arith}
use Rattle.std.specs.List.{All, slice_get}
use Rattle.std.proofs.Math.Seq.{take-append_seam}
use Rattle.lrsparse.specs.Entries.{columns_in}
use Rattle.lrsparse.specs.Listed.{listed}
use Rattle.lrsparse.specs.Owned.{IsOwned, MeetsNone}
use Rattle.lrsparse.specs.Places.{entry_at, unowned}
use Rattle.lrsparse.proofs.ColumnsOfRow.{least_within, last_there, column_to_last, none_there}
use Rattle.lrsparse.proofs.ListedShort.{listed_short}
use Rattle.lrsparse.proofs.EntriesOfRow.{column_at, columns_len}
use Rattle.lrsparse.proofs.PlacedRow.{row_placed, others_kept, above_placed, free_placed}
use Rattle.lrsparse.proofs.sparsevec.places.Places.place_from.Goals as goal

pub returns-in_default-clause-numbers : goal.returns-in_default-clause-numbers
returns-in_default-clause-numbers c =
    let places = c.args.self.now in
    let list = listed places.list in
    let es = c.args.entries.now in
    let was = none_there c.args.columns.now (sym (c.in_default.ensures ∙ c.last.ensures.value)) in
    let none : length es ≡ 0 = omega (arith, columns_len es, ap length c.requires.columns) in
    row_placed list list places.empty c.args.row 0 es places.owned.items (λ k x l. absurd (omega arith)) (λ p h. refl) c.requires.placed.above c.requires.placed.free
    (rw c.requires.columns at c.requires.upwards)

-- what is known where the displacement is found
module _ (c : goal.After-least_displacement-displacement) where
  was : slice_get c.args.columns.now (length c.args.columns.now - 1) ≡ Some c.in-Some.last
  was = sym (c.in-Some.ensures ∙ c.last.ensures.value)

  least : (d : ℕ) → d < c.least_displacement-displacement.result → MeetsNone c.args.self.now.owned.items c.args.columns.now d → ⊥
  least = rw c.as_slice.ensures.value at c.least_displacement-displacement.ensures.least

  within : c.least_displacement-displacement.result ≤ length (listed c.args.self.now.list)
  within = least_within (length (listed c.args.self.now.list)) c.args.self.now.owned.items c.requires.placed.within c.args.columns.now c.least_displacement-displacement.result least

  narrow : c.in-Some.last < 2 ^ 60
  narrow =
      let there = last_there c.args.columns.now c.in-Some.last was in
      rw there.1 at (c.requires.narrow (length c.args.columns.now - 1) 0 there.0)

  -- a list is so short
  room : length (listed c.args.self.now.list) < 2 ^ 63
  room = listed_short c.args.self.now.list

pub overflow_add-end : goal.overflow_add-end
overflow_add-end c = omega (arith, within c, narrow c, room c)

pub overflow_add-end-2 : goal.overflow_add-end-2
overflow_add-end-2 c = omega (arith, within c, narrow c, room c)

pub put_entries-requires-clause-upwards : goal.put_entries-requires-clause-upwards
put_entries-requires-clause-upwards c = rw c.requires.columns at c.requires.upwards

pub put_entries-requires-clause-within : goal.put_entries-requires-clause-within
put_entries-requires-clause-within c = λ k x l.
    let es = c.args.entries.now in
    let before = sym (c.in-Some.ensures ∙ c.last.ensures.value) in
    let same = ap (λ xs. slice_index xs k) c.requires.columns ∙ column_at es k x l in
    let many : k < length c.args.columns.now = omega (arith, columns_len es, ap length c.requires.columns) in
    omega (
      arith,
      column_to_last c.args.columns.now c.requires.upwards c.in-Some.last before k many,
      same,
      c.in_ok-reach.ensures.len,
    )

pub own_columns-requires-clause-within : goal.own_columns-requires-clause-within
own_columns-requires-clause-within c = λ k l.
    let before = sym (c.in-Some.ensures ∙ c.last.ensures.value) in
    omega (
      arith,
      column_to_last c.args.columns.now c.requires.upwards c.in-Some.last before k l,
      ap length c.as_mut_slice.ensures.value,
      c.in_ok-reach-2.ensures.len,
    )

pub full_words-self-requires : goal.full_words-self-requires
full_words-self-requires c = λ p l.
    let long : length c.own_columns.new.words ≡ c.reach-2.new.list.len = c.own_columns.auto.words ∙ c.as_mut_slice.ensures.len in
    let whole : take c.reach-2.new.list.len (c.own_columns.new.words ++ drop (length c.own_columns.new.words) c.reach-2.new.list.items) ≡ c.own_columns.new.words =
    rw (← long) (take-append_seam c.own_columns.new.words (drop (length c.own_columns.new.words) c.reach-2.new.list.items)) in
    let same : slice_index c.as_mut_slice.result.now (p / 64) ≡ slice_index c.args.self.now.owned.items (p / 64) =
    ap (λ ws. slice_index ws (p / 64)) c.as_mut_slice.ensures.value ∙ c.in_ok-reach-2.ensures.values (p / 64) in
    rw (c.as_slice-2.ensures.value, whole) ((c.own_columns.ensures p).1 (inl (rw same (c.requires.placed.full p l))))

-- what is known where the entries are put into the list
module _ (c : goal.After-self-2-1) where
  kept :
      (p : ℕ) → All (λ e. p ≢ c.least_displacement-displacement.result + e.0) c.args.entries.now
      → entry_at (listed c.put_entries.new.list) c.args.self.now.empty p ≡ entry_at (listed c.args.self.now.list) c.args.self.now.empty p
  kept p h =
      c.in_ok-put_entries.ensures.kept (unowned c.args.self.now.empty) p h
      ∙ c.in_ok-reach.ensures.values p

  words_long : length c.own_columns.new.words ≡ c.reach-2.new.list.len
  words_long = c.own_columns.auto.words ∙ c.as_mut_slice.ensures.len

  whole_words : take c.reach-2.new.list.len (c.own_columns.new.words ++ drop (length c.own_columns.new.words) c.reach-2.new.list.items) ≡ c.own_columns.new.words
  whole_words = rw (← words_long) (take-append_seam c.own_columns.new.words (drop (length c.own_columns.new.words) c.reach-2.new.list.items))

  more :
      (q : ℕ)
      → IsOwned c.own_columns.new.words q
      ↔ (IsOwned c.args.self.now.owned.items q
      ⊎ ((k : ℕ) × (k < length c.args.columns.now) × (q ≡ c.least_displacement-displacement.result + slice_index c.args.columns.now k)))
  more q =
      let same : slice_index c.as_mut_slice.result.now (q / 64) ≡ slice_index c.args.self.now.owned.items (q / 64) =
      ap (λ ws. slice_index ws (q / 64)) c.as_mut_slice.ensures.value ∙ c.in_ok-reach-2.ensures.values (q / 64) in
      rw same at (c.own_columns.ensures q)

  least_of : (d : ℕ) → d < c.least_displacement-displacement.result → MeetsNone c.args.self.now.owned.items c.args.columns.now d → ⊥
  least_of = rw c.as_slice.ensures.value at c.least_displacement-displacement.ensures.least

  -- that of the columns, as those of the entries
  more_of :
      (q : ℕ)
      → IsOwned c.own_columns.new.words q
      ↔ (IsOwned c.args.self.now.owned.items q
      ⊎ ((k : ℕ) × (k < length (columns_in c.args.entries.now)) × (q ≡ c.least_displacement-displacement.result + slice_index (columns_in c.args.entries.now) k)))
  more_of = rw c.requires.columns at more

pub returns-clause-numbers : goal.returns-clause-numbers
returns-clause-numbers c =
    let places = c.args.self.now in
    row_placed (listed places.list) (listed c.put_entries.new.list) places.empty c.args.row c.least_displacement-displacement.result c.args.entries.now places.owned.items
    (c.in_ok-put_entries.ensures.put (unowned places.empty)) (kept c) c.requires.placed.above c.requires.placed.free (rw c.requires.columns at c.requires.upwards)

pub returns-clause-others : goal.returns-clause-others
returns-clause-others c =
    let places = c.args.self.now in
    others_kept (listed places.list) (listed c.put_entries.new.list) places.empty c.args.row c.least_displacement-displacement.result c.args.entries.now places.owned.items
    (c.in_ok-put_entries.ensures.put (unowned places.empty)) (kept c) c.requires.placed.above c.requires.placed.free
    (rw (c.as_slice.ensures.value, c.requires.columns) at c.least_displacement-displacement.ensures.fits)

pub returns-clause-fits : goal.returns-clause-fits
returns-clause-fits c = rw c.as_slice.ensures.value at c.least_displacement-displacement.ensures.fits

pub returns-clause-least : goal.returns-clause-least
returns-clause-least c = least_of c

pub returns-clause-owned : goal.returns-clause-owned
returns-clause-owned c = rw (whole_words c) (λ p o. (more c p).1 (inl o))

pub returns-clause-within : goal.returns-clause-within
returns-clause-within c =
    let places = c.args.self.now in
    least_within (length (listed places.list)) places.owned.items c.requires.placed.within c.args.columns.now c.least_displacement-displacement.result (least_of c)

pub returns-clause-short : goal.returns-clause-short
returns-clause-short c len longer ends =
    let there = last_there c.args.columns.now c.in-Some.last (sym (c.in-Some.ensures ∙ c.last.ensures.value)) in
    omega (arith, longer, rw there.1 at (ends (length c.args.columns.now - 1) 0 there.0), c.in_ok-put_entries.ensures.len, c.in_ok-reach.ensures.len)

pub returns-clause-placed : goal.returns-clause-placed
returns-clause-placed c =
    let places = c.args.self.now in
    let d = c.least_displacement-displacement.result in
    let es = c.args.entries.now in
    let put = c.in_ok-put_entries.ensures.put (unowned places.empty) in
    let placed = c.requires.placed in
    record {
      above = rw (whole_words c) (above_placed (listed places.list) (listed c.put_entries.new.list) places.empty c.args.row d es places.owned.items
          put (kept c) placed.above placed.free c.own_columns.new.words (more_of c));
      free = rw (whole_words c) (free_placed (listed places.list) (listed c.put_entries.new.list) places.empty c.args.row d es places.owned.items
          put (kept c) placed.above placed.free c.own_columns.new.words (more_of c));
      within = rw (whole_words c) (λ p o. elim ((more c p).0 o) [
        | inl b ↦ omega (arith, placed.within p b, c.in_ok-put_entries.ensures.len, c.in_ok-reach.ensures.len)
        | inr (k, l, e) ↦
            omega (
              arith,
              column_to_last c.args.columns.now c.requires.upwards c.in-Some.last (sym (c.in-Some.ensures ∙ c.last.ensures.value)) k l,
              c.in_ok-put_entries.ensures.len,
              c.in_ok-reach.ensures.len,
            )
      ]);
      words = rw (whole_words c) (omega (
        arith,
        placed.words,
        c.in_ok-put_entries.ensures.len,
        c.in_ok-reach.ensures.len,
        c.own_columns.auto.words,
        ap length c.as_mut_slice.ensures.value,
        c.in_ok-reach-2.ensures.len,
      ));
      full = λ p l. rw c.as_slice-2.ensures.value at (c.full_words-self.ensures p l);
    }
