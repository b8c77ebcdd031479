-- what a test of two numbers says
use Rattle.std.proofs.Common.{◌≡◌, ℕ, ◌==◌, Bool, true, arith}
use Rattle.std.proofs.lemmas.Bool.Decides.{nat_tests}

pub are_same : (m n : ℕ) (r : Bool) → r ≡ (m == n) → r ≡ true → m ≡ n
are_same m n r e t = grind (arith, nat_tests)
