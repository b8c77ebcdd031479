-- a row whose entries were put into the list at a displacement at which they fit
use Rattle.std.proofs.Common.{◌≡◌, ◌≢◌, ◌⊎◌, ℕ, ◌+◌, ◌/◌, ◌%◌, ◌<◌, List, length, refl, sym, ap, ◌∙◌, inl, inr, arith, eq-eqb, get_or}
use Rattle.std.specs.Prelude.{◌↔◌, slice_index}
use Rattle.std.specs.Int.{bit_at}
use Rattle.std.specs.List.{All, range_with_len}
use Rattle.std.specs.List.Sorted.{IsStrictlyIncreasing}
use Rattle.std.proofs.lemmas.Bool.{ne_eqb, cases_eq}
use Rattle.std.proofs.lemmas.List.Kept.{AllPairs-from_increasing}
use Rattle.lrsparse.specs.declared.sparsevec.entries.Entry.{Entry}
use Rattle.lrsparse.specs.Entries.{columns_in, number_in, row_with}
use Rattle.lrsparse.specs.Owned.{IsOwned, MeetsNone}
use Rattle.lrsparse.specs.Places.{unowned, entry_at, number_of, number_at, row_of}
use Rattle.lrsparse.proofs.EntriesOfRow.{column_at, columns_len, entry_or_none, number_of_entry, no_number}
use Rattle.lrsparse.proofs.RowsInList.{same_map}

-- the row that stands in the place has the number that stands there, and another one has the empty number
pub number_of_owner : (empty row : ℕ) (e : Entry ℕ) → e.row ≡ row → number_of empty row e ≡ e.number
number_of_owner empty row e same = rw (eq-eqb e.row row same) refl

pub number_of_other : (empty row : ℕ) (e : Entry ℕ) → (e.row ≡ row → ⊥) → number_of empty row e ≡ empty
number_of_other empty row e apart = rw (ne_eqb e.row row apart) refl

-- in a place that no row owns each row has the empty number
pub number_of_none : (empty row : ℕ) → number_of empty row (unowned empty) ≡ empty
number_of_none empty row = elim (cases_eq 0 row) [
  | inl same ↦ number_of_owner empty row (unowned empty) same
  | inr apart ↦ number_of_other empty row (unowned empty) apart
]

-- a place is owned, or it isn't
is_owned : (words : List ℕ) (p : ℕ) → IsOwned words p ⊎ (IsOwned words p → ⊥)
is_owned words p = cases_eq (bit_at (slice_index words (p / 64)) (p % 64)) 1

module _
    (old new : List (Entry ℕ)) (empty row d : ℕ) (es : List (ℕ × ℕ)) (before : List ℕ)
    (put : All (λ e. entry_at new empty (d + e.0) ≡ record { row = row; number = e.1 }) es)
    (kept : (p : ℕ) → All (λ e. p ≢ d + e.0) es → entry_at new empty p ≡ entry_at old empty p)
    (above : (p : ℕ) → IsOwned before p → (entry_at old empty p).row < row)
    (free : (p : ℕ) → (IsOwned before p → ⊥) → entry_at old empty p ≡ unowned empty)
  where
    -- in the place of an entry it stands
    stands : (p k : ℕ) → k < length es → p ≡ d + (get_or es k (0, 0)).0 → entry_at new empty p ≡ record { row = row; number = (get_or es k (0, 0)).1 }
    stands p k l e = ap (λ q. entry_at new empty q) e ∙ put k (0, 0) l

    -- the row has no number from before
    number_above : (p : ℕ) → number_at old empty row p ≡ empty
    number_above p = elim (is_owned before p) [
      | inl o ↦ number_of_other empty row (entry_at old empty p) (λ q. omega (arith, above p o))
      | inr n ↦ ap (number_of empty row) (free p n) ∙ number_of_none empty row
    ]

    -- the row has its numbers
    pub row_placed : IsStrictlyIncreasing (columns_in es) → (cols : ℕ) → row_of new empty cols row d ≡ row_with empty cols es
    row_placed upwards cols =
        same_map (λ c. number_at new empty row (d + c)) (number_in empty es) (range_with_len 0 cols) there
      where
        there : (c : ℕ) → number_at new empty row (d + c) ≡ number_in empty es c
        there c = elim (entry_or_none es d (d + c)) [
          | inl (k, l, e) ↦
              let same : c ≡ (get_or es k (0, 0)).0 = omega arith in
              ap (number_of empty row) (stands (d + c) k l e)
              ∙ (number_of_owner empty row (record { row = row; number = (get_or es k (0, 0)).1 }) refl
              ∙ sym (ap (number_in empty es) same ∙ number_of_entry empty es (AllPairs-from_increasing (columns_in es) upwards) k (0, 0) l))
          | inr none ↦
              ap (number_of empty row) (kept (d + c) none)
              ∙ (number_above (d + c)
              ∙ sym (no_number empty es c (λ k x l e. none k x l (ap (λ j. d + j) (sym e)))))
        ]

    -- the other rows have theirs
    pub others_kept : MeetsNone before (columns_in es) d → (q p : ℕ) → q ≢ row → number_at new empty q p ≡ number_at old empty q p
    others_kept fits q p ne = elim (entry_or_none es d p) [
      | inl (k, l, e) ↦
          let unmet : IsOwned before p → ⊥ = λ o.
          fits k (omega (arith, columns_len es)) (rw (e ∙ ap (λ j. d + j) (sym (column_at es k (0, 0) l))) at o) in
          ap (number_of empty q) (stands p k l e)
          ∙ (number_of_other empty q (record { row = row; number = (get_or es k (0, 0)).1 }) (λ s. ne (sym s))
          ∙ sym (ap (number_of empty q) (free p unmet) ∙ number_of_none empty q))
      | inr none ↦ ap (number_of empty q) (kept p none)
    ]

    -- the places that are owned are those of the row's columns, and those from before
    module _
        (words : List ℕ)
        (more : (q : ℕ) → IsOwned words q ↔ (IsOwned before q ⊎ ((k : ℕ) × (k < length (columns_in es)) × (q ≡ d + slice_index (columns_in es) k))))
      where
        -- a column's place is an entry's
        entry_of : (p k : ℕ) → k < length (columns_in es) → p ≡ d + slice_index (columns_in es) k → (k < length es) × (p ≡ d + (get_or es k (0, 0)).0)
        entry_of p k l e =
            let m : k < length es = omega (arith, columns_len es) in
            (m, e ∙ ap (λ j. d + j) (column_at es k (0, 0) m))

        -- they are owned by this row and those above
        pub above_placed : (p : ℕ) → IsOwned words p → (entry_at new empty p).row < row + 1
        above_placed p o = elim (entry_or_none es d p) [
          | inl (k, l, e) ↦ rw (stands p k l e) (omega arith)
          | inr none ↦ elim ((more p).0 o) [
            | inl b ↦ rw (kept p none) (omega (arith, above p b))
            | inr (k, l, e) ↦ let m = entry_of p k l e in absurd (none k (0, 0) m.0 m.1)
          ]
        ]

        -- no other place has a number
        pub free_placed : (p : ℕ) → (IsOwned words p → ⊥) → entry_at new empty p ≡ unowned empty
        free_placed p n = elim (entry_or_none es d p) [
          | inl (k, l, e) ↦
              absurd (n ((more p).1 (inr (k, omega (arith, columns_len es), e ∙ ap (λ j. d + j) (sym (column_at es k (0, 0) l))))))
          | inr none ↦ kept p none ∙ free p (λ b. n ((more p).1 (inl b)))
        ]
