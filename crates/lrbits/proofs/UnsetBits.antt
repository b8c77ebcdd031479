-- How many bits are not set, where one is set.
use Rattle.std.proofs.Common.{◌≡◌, ℕ, zero, suc, ◌<◌, Bool, true, false, List, [], ◌∷◌, length, get_or, set, ap, sym, arith}
use Rattle.lrbits.specs.Bits.{unset}

-- one bit more
pub unset_falls : (v : List Bool) (i : ℕ) → i < length v → get_or v i false ≡ false → unset (set v i true) < unset v
unset_falls [] i h e = absurd (omega arith)
unset_falls (true ∷ v) zero h e = cc
unset_falls (false ∷ v) zero h e = omega arith
unset_falls (b ∷ v) (suc i) h e = omega (arith, unset_falls v i (omega arith) e)

-- a bit that is set already
pub set_again : (v : List Bool) (i : ℕ) → get_or v i false ≡ true → set v i true ≡ v
set_again [] i h = cc
set_again (b ∷ v) zero h = ap (λ x. x ∷ v) (sym h)
set_again (b ∷ v) (suc i) h = ap (λ x. b ∷ x) (set_again v i h)
