-- the token and the production of an entry
use Rattle.std.proofs.Common.{◌≡◌, ℕ, refl}
use Rattle.std.specs.Prelude.{Option, None, Some}
use Rattle.lrconflicts.specs.Moves.{Reduce}
use Rattle.lrconflicts.specs.Entries.{entry_by, token_of, one_of}

-- whichever list it is in, these are what was given
pub token_is : (t p s : ℕ) (o : Option ℕ) → token_of (entry_by t p s o) ≡ t
token_is t p s None = refl
token_is t p s (Some q) = refl

pub one_is : (t p s : ℕ) (o : Option ℕ) → one_of (entry_by t p s o) ≡ Reduce p
one_is t p s None = refl
one_is t p s (Some q) = refl
