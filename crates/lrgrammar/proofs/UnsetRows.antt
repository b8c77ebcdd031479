-- How many bits of rows are not set, where a row is replaced.
use Rattle.std.proofs.Common.{◌≡◌, ℕ, zero, suc, ◌+◌, ◌<◌, Bool, List, [], ◌∷◌, length, set, arith}
use Rattle.lrbits.specs.Bits.{unset}
use Rattle.lrgrammar.specs.FirstRows.{row, unset_rows}

-- one row replaced
pub unset_rows_set : (x : List (List Bool)) (r : ℕ) (v : List Bool) → r < length x → unset_rows (set x r v) + unset (row x r) ≡ unset_rows x + unset v
unset_rows_set [] r v h = absurd (omega arith)
unset_rows_set (w ∷ x) zero v h = omega arith
unset_rows_set (w ∷ x) (suc r) v h = omega (arith, unset_rows_set x r v (omega arith))
