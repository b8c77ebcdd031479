-- A test of all bits tells whether two bit vectors are equal.
use Rattle.std.proofs.Common.{◌≡◌, Bool, List}
use Rattle.std.proofs.Math.Bool.{beq}
use Rattle.std.proofs.lemmas.Slice.Eq.{slice_eq-Decides}
use Rattle.std.specs.Bool.{Decides}
use Rattle.std.specs.Cmp.{booleans_Decides}
use Rattle.std.specs.Cmp.Lexicographic.{pointwise}

-- a test of all bits tells whether two vectors are equal
pub same_bits : (v w : List Bool) (r : Bool) → r ≡ pointwise beq v w → Decides r (v ≡ w)
same_bits = slice_eq-Decides booleans_Decides
