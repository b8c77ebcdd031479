-- the list in which the entries of a matrix stand, each from its row's displacement on
use Rattle.std.specs.Prelude.{◌≡◌, ℕ, ◌+◌, ◌*◌, ◌<◌, ◌≤◌, ◌==◌, if◌then◌else◌}
use Rattle.std.specs.Prelude.{List, [], ◌∷◌, ◌++◌, length, map, slice_index_or}
use Rattle.std.specs.List.{range_with_len}
use Rattle.lrsparse.specs.declared.sparsevec.entries.Entry.{Entry}
use Rattle.lrsparse.specs.declared.sparsevec.places.Places.{Places}
use Rattle.lrsparse.specs.Listed.{listed}
use Rattle.lrsparse.specs.Owned.{IsOwned, AreOwned}

-- what stands in a place that no row owns: the empty number, which each row has there
abbrev pub unowned : ℕ → Entry ℕ
unowned empty = record { row = 0; number = empty }

-- what stands in the place; past the list no row owns any
abbrev pub entry_at : List (Entry ℕ) → ℕ → ℕ → Entry ℕ
entry_at list empty place = slice_index_or list place (unowned empty)

-- rows above this one are placed: it is known which places they own
pub record IsPlaced (row : ℕ) (places : Places) : Type 0 where
  pub above : (place : ℕ) → IsOwned places.owned.items place
      → (entry_at (listed places.list) places.empty place).row < row
  pub free : (place : ℕ) → ¬ (IsOwned places.owned.items place)
      → entry_at (listed places.list) places.empty place ≡ unowned places.empty
  pub within : (place : ℕ) → IsOwned places.owned.items place → place < length (listed places.list)
  pub words : 64 * length places.owned.items ≤ length (listed places.list) + 64
  pub full : AreOwned places.owned.items (64 * places.full)

-- the number that the row has in a place: the empty one where it doesn't own it
abbrev pub number_of : ℕ → ℕ → Entry ℕ → ℕ
number_of empty row e = if e.row == row then e.number else empty

abbrev pub number_at : List (Entry ℕ) → ℕ → ℕ → ℕ → ℕ
number_at list empty row place = number_of empty row (entry_at list empty place)

-- the numbers of the row, which stands from the displacement on
abbrev pub row_of : List (Entry ℕ) → ℕ → ℕ → ℕ → ℕ → List ℕ
row_of list empty cols row displacement =
    map (λ c. number_at list empty row (displacement + c)) (range_with_len 0 cols)

-- the rows from this one on, which have these displacements, one after another
abbrev pub rows_from : List (Entry ℕ) → ℕ → ℕ → ℕ → List ℕ → List ℕ
rows_from list empty cols row [] = []
rows_from list empty cols row (d ∷ ds) =
    row_of list empty cols row d ++ rows_from list empty cols (row + 1) ds
