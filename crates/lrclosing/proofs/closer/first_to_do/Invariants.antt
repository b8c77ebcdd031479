use Rattle.std.proofs.Common.{◌≡◌, ◌<◌, ◌≤◌, ℕ, Some}
use Rattle.std.specs.Prelude.{IsTrue, slice_get}
use Rattle.lrbits.specs.Bits.{bit}
use Rattle.lrclosing.proofs.closer.first_to_do.Given as goal

abbrev pub invariant-loop-k : goal.invariant-loop-k
invariant-loop-k l = (j a : ℕ) → l.from ≤ j → j < l.k → slice_get l.reached j ≡ Some a → IsTrue (bit l.todo a) → ⊥
