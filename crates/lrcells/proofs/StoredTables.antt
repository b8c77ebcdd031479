-- what a table that is kept in matrices has in each cell
use Rattle.std.proofs.Common.{◌≡◌, ℕ, ◌+◌, ◌*◌, ◌<◌, ◌≤◌, List, [], length, None, Some, refl, ap, ◌∙◌, inl, inr, arith}
use Rattle.std.specs.Prelude.{map, slice_get, slice_index_or}
use Rattle.std.specs.List.{range_with_len}
use Rattle.std.proofs.lemmas.Bool.{cases_lt, lt-ltb, le-ltb}
use Rattle.std.proofs.lemmas.List.{get_or_past}
use Rattle.std.proofs.lemmas.List.Elements.{All-map}
use Rattle.std.proofs.lemmas.List.FromFn.{get_or-map-range_with_len, length-map-range_with_len}
use Rattle.std.proofs.lemmas.Nat.{mul-add-lt}
use Rattle.std.proofs.lemmas.Option.{slice_get_within, slice_get-get_or, get_or_from_slice_get}
use Rattle.std.proofs.Math.Nat.{mul-le-mul_right}
use Rattle.lrspec.specs.tables.Table.{IsGrid}
use Rattle.lrsparse.specs.Matrix.{Matrix, value_at}
use Rattle.lrcells.specs.StoredTable.{grid_of}

-- rows beyond the number of rows and cells beyond the number of columns have the default, and the others what their
-- numbers say
module _ {X : Type 0} (f : ℕ → X) (d : X) (n : ℕ) (m : Matrix) (s c : ℕ) where
  abbrev cell : X
  cell = slice_index_or (slice_index_or (grid_of f n m) s []) c d

  abbrev said : ℕ → X
  said k = f (slice_index_or m.cells (s * m.cols + k) 0)

  row_there : s < n → slice_index_or (grid_of f n m) s [] ≡ map said (range_with_len 0 m.cols)
  row_there l =
      get_or-map-range_with_len (λ r. map (λ k. f (slice_index_or m.cells (r * m.cols + k) 0)) (range_with_len 0 m.cols)) 0 n s s [] l (omega arith)

  -- the cell says what its number says
  pub cell_there : s < n → c < m.cols → cell ≡ said c
  cell_there l k = rw (row_there l) (get_or-map-range_with_len said 0 m.cols c c d k (omega arith))

  -- a state beyond the last one has the default in each cell
  pub cell_past_row : n ≤ s → cell ≡ d
  cell_past_row l = rw (get_or_past (grid_of f n m) s [] (simp length-map-range_with_len l)) refl

  cell_past_column : m.cols ≤ c → cell ≡ d
  cell_past_column k = elim (cases_lt s n) [
    | inl l ↦ rw (row_there l) (get_or_past (map said (range_with_len 0 m.cols)) c d (simp length-map-range_with_len k))
    | inr l ↦ cell_past_row l
  ]

  -- the same by what is read
  pub cell_read : (v : ℕ) → length m.cells ≡ n * m.cols → value_at m s c ≡ Some v → cell ≡ f v
  cell_read v e h = elim (cases_lt c m.cols) [
    | inl k ↦
        let found : slice_get m.cells (s * m.cols + c) ≡ Some v = rw (lt-ltb c m.cols k) at h in
        let within : s * m.cols + c < n * m.cols = rw (← e) (slice_get_within m.cells (s * m.cols + c) v found) in
        let l : s < n = elim (cases_lt s n) [ inl l ↦ l | inr l ↦ absurd (omega (arith, mul-le-mul_right m.cols l)) ] in
        cell_there l k ∙ ap f (get_or_from_slice_get m.cells (s * m.cols + c) v 0 found)
    | inr k ↦ let none : None ≡ Some v = rw (le-ltb c m.cols k) at h in absurd cc
  ]

  -- where nothing is read, there is the default
  pub cell_none : length m.cells ≡ n * m.cols → value_at m s c ≡ None → cell ≡ d
  cell_none e h = elim (cases_lt c m.cols) [
    | inl k ↦ elim (cases_lt s n) [
      | inl l ↦
          let within : s * m.cols + c < length m.cells = rw e (omega (arith, mul-add-lt s m.cols c n l k)) in
          let found : slice_get m.cells (s * m.cols + c) ≡ None = rw (lt-ltb c m.cols k) at h in
          let some = slice_get-get_or m.cells (s * m.cols + c) 0 within in
          absurd cc
      | inr l ↦ cell_past_row l
    ]
    | inr k ↦ cell_past_column k
  ]

-- the first `n` rows are a grid with the matrix's columns
pub grid_of_rows : {X : Type 0} (f : ℕ → X) (n : ℕ) (m : Matrix) → IsGrid n m.cols (grid_of f n m)
grid_of_rows {X} f n m =
    let row : ℕ → List X = λ r. map (λ c. f (slice_index_or m.cells (r * m.cols + c) 0)) (range_with_len 0 m.cols) in
    record {
      rows = length-map-range_with_len row 0 n;
      places = All-map (λ r. length r ≡ m.cols) row (range_with_len 0 n) (λ k d l. length-map-range_with_len _ 0 m.cols);
    }
