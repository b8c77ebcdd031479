-- rows of a matrix by their entries, each of which is a column and its number
use Rattle.std.specs.Prelude.{◌≢◌, ℕ, ◌<◌, ◌==◌, if◌then◌else◌, List, [], ◌∷◌, map}
use Rattle.std.specs.List.{All, range_with_len}
use Rattle.std.specs.List.Sorted.{IsStrictlyIncreasing}

-- the columns of entries
abbrev pub columns_in : List (ℕ × ℕ) → List ℕ
columns_in entries = map (λ e. e.0) entries

-- the number of the entry in the column, or else the empty one
abbrev pub number_in : ℕ → List (ℕ × ℕ) → ℕ → ℕ
number_in empty [] column = empty
number_in empty (e ∷ es) column = if e.0 == column then e.1 else number_in empty es column

-- the numbers of a row of `cols` columns with these entries
abbrev pub row_with : ℕ → ℕ → List (ℕ × ℕ) → List ℕ
row_with empty cols entries = map (number_in empty entries) (range_with_len 0 cols)

-- these are entries of a row of `cols` columns, upwards by column, none of which has the empty number
pub record AreEntries (empty cols : ℕ) (entries : List (ℕ × ℕ)) : Type 0 where
  pub upwards : IsStrictlyIncreasing (columns_in entries)
  pub within : All (λ e. e.0 < cols) entries
  pub some : All (λ e. e.1 ≢ empty) entries
