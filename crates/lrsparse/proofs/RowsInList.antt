-- the rows that stand in a list, one after another
use Rattle.std.proofs.Common.{◌≡◌, ◌≢◌, ℕ, zero, suc, ◌+◌, ◌*◌, ◌<◌, ◌≤◌, List, [], ◌∷◌, ◌++◌, None, Some, length, map, refl, sym, ap, ◌∙◌, arith, get_or, append_assoc}
use Rattle.std.proofs.lemmas.List.{append-nil}
use Rattle.std.specs.Prelude.{slice_index_or}
use Rattle.std.specs.List.{range_with_len, slice_get}
use Rattle.std.proofs.lemmas.List.{length-append, get_or-append-add, get_or_append_left}
use Rattle.std.proofs.lemmas.List.FromFn.{length-map-range_with_len, get_or-map-range_with_len}
use Rattle.std.proofs.lemmas.Option.{slice_get-get_or, slice_get_past}
use Rattle.lrsparse.specs.declared.sparsevec.entries.Entry.{Entry}
use Rattle.std.proofs.lemmas.Bool.{lt-ltb}
use Rattle.lrsparse.specs.Matrix.{value_at, HasRows}
use Rattle.lrsparse.specs.Places.{number_at, row_of, rows_from}

pub same_map : {X : Type 0} (f h : ℕ → X) (xs : List ℕ) → ((x : ℕ) → f x ≡ h x) → map f xs ≡ map h xs
same_map f h [] e = refl
same_map f h (x ∷ xs) e = ap (λ y. y ∷ map f xs) (e x) ∙ ap (λ ys. h x ∷ ys) (same_map f h xs e)

-- rows keep their numbers where another one is placed
pub rows_kept :
    (old new : List (Entry ℕ)) (empty cols row : ℕ)
    → ((q p : ℕ) → q ≢ row → number_at new empty q p ≡ number_at old empty q p)
    → (r : ℕ) (ds : List ℕ) → r + length ds ≤ row → rows_from new empty cols r ds ≡ rows_from old empty cols r ds
rows_kept old new empty cols row others r [] l = refl
rows_kept old new empty cols row others r (d ∷ ds) l =
    let apart : r ≢ row = omega arith in
    ap (λ xs. xs ++ rows_from new empty cols (r + 1) ds) (same_map (λ c. number_at new empty r (d + c)) (λ c. number_at old empty r (d + c)) (range_with_len 0 cols) (λ c. others r (d + c) apart))
    ∙ ap (λ xs. row_of old empty cols r d ++ xs) (rows_kept old new empty cols row others (r + 1) ds (omega arith))

-- one row more
pub rows_more :
    (list : List (Entry ℕ)) (empty cols r d : ℕ) (ds : List ℕ) (row : ℕ) → row ≡ r + length ds
    → rows_from list empty cols r (ds ++ d ∷ []) ≡ rows_from list empty cols r ds ++ row_of list empty cols row d
rows_more list empty cols r d [] row e = rw (let s : row ≡ r = omega arith in s) (append-nil (row_of list empty cols r d))
rows_more list empty cols r d (x ∷ ds) row e =
    ap (λ xs. row_of list empty cols r x ++ xs) (rows_more list empty cols (r + 1) d ds row (omega arith))
    ∙ sym (append_assoc (row_of list empty cols r x) (rows_from list empty cols (r + 1) ds) (row_of list empty cols row d))

module _ (list : List (Entry ℕ)) (empty cols : ℕ) where
  length_of_row : (r d : ℕ) → length (row_of list empty cols r d) ≡ cols
  length_of_row r d = length-map-range_with_len (λ c. number_at list empty r (d + c)) 0 cols

  length_of_rows : (r : ℕ) (ds : List ℕ) → length (rows_from list empty cols r ds) ≡ length ds * cols
  length_of_rows r [] = omega arith
  length_of_rows r (d ∷ ds) =
      length-append (row_of list empty cols r d) (rows_from list empty cols (r + 1) ds)
      ∙ omega (arith, length_of_row r d, length_of_rows (r + 1) ds)

  number_in_rows :
      (r : ℕ) (ds : List ℕ) (k c : ℕ) → k < length ds → c < cols
      → get_or (rows_from list empty cols r ds) (k * cols + c) empty ≡ number_at list empty (r + k) (slice_index_or ds k 0 + c)
  number_in_rows r [] k c l h = absurd (omega arith)
  number_in_rows r (d ∷ ds) zero c l h =
      let first : zero * cols + c ≡ c = omega arith in
      let same : r + 0 ≡ r = omega arith in
      rw (first, same)
      (get_or_append_left (row_of list empty cols r d) (rows_from list empty cols (r + 1) ds) empty c (omega (arith, length_of_row r d))
      ∙ get_or-map-range_with_len (λ j. number_at list empty r (d + j)) 0 cols c c empty h (omega arith))
  number_in_rows r (d ∷ ds) (suc k) c l h =
      let later : suc k * cols + c ≡ length (row_of list empty cols r d) + (k * cols + c) = omega (arith, length_of_row r d) in
      let same : r + suc k ≡ r + 1 + k = omega arith in
      rw (later, same)
      (get_or-append-add (row_of list empty cols r d) (rows_from list empty cols (r + 1) ds) (k * cols + c) empty
      ∙ number_in_rows (r + 1) ds k c (omega arith) h)

  -- the number in a row and a column
  pub number_read :
      (ds : List ℕ) (k c : ℕ) → k < length ds → c < cols
      → slice_get (rows_from list empty cols 0 ds) (k * cols + c) ≡ Some (number_at list empty k (slice_index_or ds k 0 + c))
  number_read ds k c l h =
      let within : k * cols + c < length ds * cols = grind arith in
      slice_get-get_or (rows_from list empty cols 0 ds) (k * cols + c) empty (omega (arith, length_of_rows 0 ds))
      ∙ (ap Some (number_in_rows 0 ds k c l h) ∙ ap (λ r. Some (number_at list empty r (slice_index_or ds k 0 + c))) (let same : 0 + k ≡ k = omega arith in same))

  -- past the last row there is none
  pub none_past : (ds : List ℕ) (k c : ℕ) → length ds ≤ k → slice_get (rows_from list empty cols 0 ds) (k * cols + c) ≡ None
  none_past ds k c l =
      let past : length ds * cols ≤ k * cols + c = grind arith in
      slice_get_past (rows_from list empty cols 0 ds) (k * cols + c) (omega (arith, length_of_rows 0 ds))

  -- the number that the matrix of these rows has in a row and a column
  value_there :
      (ds : List ℕ) (row c : ℕ) → row < length ds → c < cols
      → value_at (record { cols = cols; cells = rows_from list empty cols 0 ds }) row c ≡ Some (number_at list empty row (slice_index_or ds row 0 + c))
  value_there ds row c l h = rw (lt-ltb c cols h) (number_read ds row c l h)

  pub value_read :
      (ds : List ℕ) (row c d n : ℕ) → row < length ds → c < cols
      → d ≡ slice_index_or ds row 0 → number_at list empty row (d + c) ≡ n
      → value_at (record { cols = cols; cells = rows_from list empty cols 0 ds }) row c ≡ Some n
  value_read ds row c d n l h at number =
      value_there ds row c l h
      ∙ ap Some (ap (λ k. number_at list empty row (k + c)) (sym at) ∙ number)

  pub value_past : (ds : List ℕ) (row c : ℕ) → length ds ≤ row → c < cols → value_at (record { cols = cols; cells = rows_from list empty cols 0 ds }) row c ≡ None
  value_past ds row c l h = rw (lt-ltb c cols h) (none_past ds row c l)

-- one row more stands in the list
pub row_added :
    (old new : List (Entry ℕ)) (empty cols row d : ℕ) (ds numbers : List ℕ)
    → row ≡ length ds → row_of new empty cols row d ≡ numbers
    → ((q p : ℕ) → q ≢ row → number_at new empty q p ≡ number_at old empty q p)
    → rows_from new empty cols 0 (ds ++ d ∷ []) ≡ rows_from old empty cols 0 ds ++ numbers
row_added old new empty cols row d ds numbers last there others =
    rows_more new empty cols 0 d ds row (omega arith)
    ∙ (ap (λ xs. xs ++ row_of new empty cols row d) (rows_kept old new empty cols row others 0 ds (omega arith))
    ∙ ap (λ xs. rows_from old empty cols 0 ds ++ xs) there)

-- the cells of one row fewer are left behind the rows so far
pub next_row :
    (old new cells rest front back : List ℕ) → old ++ rest ≡ cells → rest ≡ front ++ back → new ≡ old ++ front → new ++ back ≡ cells
next_row old new cells rest front back before split more =
    ap (λ xs. xs ++ back) more ∙ (append_assoc old front back ∙ (ap (λ xs. old ++ xs) (sym split) ∙ before))

-- one row fewer is left
pub fewer_rows : (cols n m : ℕ) → HasRows cols n → m + cols ≡ n → 0 < n → HasRows cols m
fewer_rows cols n m (zero, e) h l = absurd (omega arith)
fewer_rows cols n m (suc q, e) h l = (q, omega arith)

-- there is one row at least where cells are left
pub row_left : (cols n : ℕ) → HasRows cols n → 0 < n → cols ≤ n
row_left cols n (zero, e) l = absurd (omega arith)
row_left cols n (suc q, e) l = omega arith
