-- matrices that are made row after row
use Rattle.std.specs.Prelude.{ℕ, ◌+◌, ◌<◌, ◌^◌, length}
use Rattle.std.specs.List.{All}
use Rattle.lrsparse.specs.Matrix.{Matrix}
use Rattle.lrsparse.specs.Listed.{listed}
use Rattle.lrsparse.specs.Places.{IsPlaced, rows_from}
use Rattle.lrsparse.specs.Starts.{AreStarts}
use Rattle.lrsparse.specs.declared.builder.MatrixBuilder.{MatrixBuilder}

-- the matrix of the rows so far
abbrev pub so_far : MatrixBuilder → Matrix
so_far b = record {
  cols = b.cols;
  cells = rows_from (listed b.places.list) b.places.empty b.cols 0 b.displacements.items;
}

-- the number that stands in most cells
abbrev pub empty_of : MatrixBuilder → ℕ
empty_of b = b.places.empty

-- the rows so far are placed, and each of their places has a number
pub record IsBuilt (b : MatrixBuilder) : Type 0 where
  pub placed : IsPlaced (length b.displacements.items) b.places
  pub starts : AreStarts b.starts b.places.owned.items
  pub sums : All (λ d. d + b.cols < 2 ^ 64) b.displacements.items
