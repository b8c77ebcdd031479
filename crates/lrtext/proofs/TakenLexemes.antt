-- whether a lexeme was taken, by the answer that says so
use Rattle.std.proofs.Common.{◌≡◌, Bool, true, false, Option, None, Some}
use Rattle.lrtext.specs.Readings.{Reading}
use Rattle.lrtext.specs.StoredReading.{IsTaken}

-- a lexeme that was taken
pub was_taken : {o : Option Reading} {x : Reading} (b : Bool) → b ≡ true → IsTaken b o x → o ≡ Some x
was_taken true e h = h
was_taken false e h = cc

-- a lexeme that was not taken
pub was_refused : {o : Option Reading} (x : Reading) (b : Bool) → b ≡ false → IsTaken b o x → o ≡ None
was_refused x true e h = cc
was_refused x false e h = h
