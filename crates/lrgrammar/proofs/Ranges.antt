-- Numbers in a row: one more at the end, and the first of them.
use Rattle.std.proofs.Common.{◌≡◌, ℕ, zero, suc, ◌+◌, ◌-◌, ◌<◌, [], ◌∷◌, ◌++◌, length, ap, sym, ◌∙◌, arith}
use Rattle.std.specs.List.{range_with_len}
use Rattle.std.proofs.lemmas.List.FromFn.{length-range_with_len}

-- the first of some numbers
pub range_first : (at end : ℕ) → at < end → range_with_len at (end - at) ≡ at ∷ range_with_len (at + 1) (end - (at + 1))
range_first at end l = let e : end - at ≡ suc (end - (at + 1)) = omega arith in ap (range_with_len at) e

-- the same by the number that an index gives, and how many are left then
pub range_turn : (at end n : ℕ) → n ≡ at → at < end → range_with_len at (end - at) ≡ n ∷ range_with_len (at + 1) (end - (at + 1))
range_turn at end n e l = range_first at end l ∙ ap (λ k. k ∷ range_with_len (at + 1) (end - (at + 1))) (sym e)

pub range_left : (at end : ℕ) → at < end → length (range_with_len at (end - at)) ≡ length (range_with_len (at + 1) (end - (at + 1))) + 1
range_left at end l = omega (arith, length-range_with_len at (end - at), length-range_with_len (at + 1) (end - (at + 1)))

pub range_more : (a n : ℕ) → range_with_len a (suc n) ≡ range_with_len a n ++ (a + n) ∷ []
range_more a zero = let e : a ≡ a + 0 = omega arith in ap (λ x. x ∷ []) e
range_more a (suc n) = let e : a + 1 + n ≡ a + suc n = omega arith in ap (λ xs. a ∷ xs) (range_more (a + 1) n ∙ ap (λ x. range_with_len (a + 1) n ++ x ∷ []) e)
