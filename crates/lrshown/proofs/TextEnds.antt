-- texts without the token that ends them
use Rattle.std.proofs.Common.{◌≡◌, ℕ, List, [], ◌∷◌, ◌++◌, false, nat_eq, ap, refl}
use Rattle.lrshown.specs.ShownTexts.{without_end}

pub ended : (text : List ℕ) → without_end (text ++ 0 ∷ []) ≡ text
ended [] = refl
ended (t ∷ []) = refl
ended (t ∷ u ∷ us) = ap (λ ts. t ∷ ts) (ended (u ∷ us))

pub not_ended : (text : List ℕ) (last : ℕ) → nat_eq last 0 ≡ false → without_end (text ++ last ∷ []) ≡ text ++ last ∷ []
not_ended [] last other = rw other refl
not_ended (t ∷ []) last other = rw other refl
not_ended (t ∷ u ∷ us) last other = ap (λ ts. t ∷ ts) (not_ended (u ∷ us) last other)
