-- matrices as plain data
use Rattle.std.specs.Prelude.{◌≡◌, ℕ, ◌+◌, ◌*◌, List, Option, None, if◌then◌else◌, nat_lt, slice_get}

-- a matrix: how many columns it has, and its cells, row by row
pub record Matrix : Type 0 where
  pub cols : ℕ
  pub cells : List ℕ

-- the number in the row and the column, if they are there
abbrev pub value_at : Matrix → ℕ → ℕ → Option ℕ
value_at m row col = if nat_lt col m.cols then slice_get m.cells (row * m.cols + col) else None

-- so many cells are whole rows of `cols` cells
abbrev pub HasRows : ℕ → ℕ → Type 0
HasRows cols n = (rows : ℕ) × (n ≡ rows * cols)
