-- what holds of all cells of a matrix holds of each that is read
use Rattle.std.proofs.Common.{◌≡◌, ℕ, ◌+◌, ◌*◌, None, Some, inl, inr}
use Rattle.std.specs.Prelude.{slice_get}
use Rattle.std.specs.List.{All}
use Rattle.std.proofs.lemmas.Bool.{cases_lt, lt-ltb, le-ltb}
use Rattle.std.proofs.lemmas.List.Elements.{All-get_or}
use Rattle.std.proofs.lemmas.Option.{slice_get_within, get_or_from_slice_get}
use Rattle.lrsparse.specs.Matrix.{Matrix, value_at}

pub read_among : (P : ℕ → Type 0) (m : Matrix) (s c v : ℕ) → All P m.cells → value_at m s c ≡ Some v → P v
read_among P m s c v all h = elim (cases_lt c m.cols) [
  | inl k ↦
      let found : slice_get m.cells (s * m.cols + c) ≡ Some v = rw (lt-ltb c m.cols k) at h in
      let there = All-get_or P m.cells (s * m.cols + c) 0 (slice_get_within m.cells (s * m.cols + c) v found) all in
      rw (get_or_from_slice_get m.cells (s * m.cols + c) v 0 found) at there
  | inr k ↦ let none : None ≡ Some v = rw (le-ltb c m.cols k) at h in absurd cc
]
