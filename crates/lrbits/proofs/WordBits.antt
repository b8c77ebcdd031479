-- The bits of one word.
use Rattle.std.proofs.Common.{◌≡◌, ℕ, zero, suc, ◌-◌, ◌*◌, ◌/◌, ◌%◌, ◌^◌, ◌<◌, ◌≤◌, ◌≢◌, min, max, Bool, true, false, ◌&&◌, ◌||◌, ◌==◌, refl, sym, ◌∙◌, arith, ⊎_elim}
use Rattle.std.specs.Int.{bit_at, bit_not, trailing_zeros}
use Rattle.std.specs.Int.RustNames.{bit_and, bit_or}
use Rattle.std.proofs.Common.{w64}
use Rattle.std.proofs.lemmas.Nat.{pow_below}
use Rattle.std.proofs.lemmas.Bool.{eqb-true, eqb-false, cases_Bool, cases_lt, and_right}
use Rattle.std.proofs.lemmas.Nat.Bits.{bit_at_or, bit_at_and, bit_at-lt, bit_at_set_same, bit_at_set_other, bit_at_clear_same, bit_at_clear_other, bit_at-trailing_zeros, bit_at_ones, bit_at_ones_above, bit_at_mask_inside, bit_at_mask_below, ones_shl, same_from_bits_below, same_from_bits, bit_at_above, shr_and_one, bit_at-zero}
use Rattle.lrbits.specs.Words.{in_word}

-- a bit is 1 where it is set, and else 0
pub one_in : (w i : ℕ) → in_word w i ≡ true → bit_at w i ≡ 1
unfolding in_word
one_in w i h = eqb-true (bit_at w i) 1 h

pub in_one : (w i : ℕ) → bit_at w i ≡ 1 → in_word w i ≡ true
unfolding in_word
in_one w i h = rw h refl

pub zero_out : (w i : ℕ) → in_word w i ≡ false → bit_at w i ≡ 0
unfolding in_word
zero_out w i h = omega (arith, bit_at-lt w i, eqb-false (bit_at w i) 1 h)

pub out_zero : (w i : ℕ) → bit_at w i ≡ 0 → in_word w i ≡ false
unfolding in_word
out_zero w i h = rw h refl

-- the code's test of a bit
pub tested : (w i : ℕ) → (bit_and (w / 2 ^ i) 1 == 1) ≡ in_word w i
unfolding in_word
tested w i = rw (shr_and_one w i) refl

pub in_zero : (i : ℕ) → in_word 0 i ≡ false
in_zero i = out_zero 0 i (bit_at-zero i)

-- the bits of `a | b` and of `a & b`
pub in_or : (a b i : ℕ) → in_word (bit_or a b) i ≡ (in_word a i || in_word b i)
unfolding in_word
in_or a b i = rw (bit_at_or a b i) (largest (bit_at a i) (bit_at b i) (bit_at-lt a i) (bit_at-lt b i))
  where
    largest : (x y : ℕ) → x < 2 → y < 2 → (max x y == 1) ≡ ((x == 1) || (y == 1))
    largest zero zero h k = refl
    largest zero (suc zero) h k = refl
    largest (suc zero) zero h k = refl
    largest (suc zero) (suc zero) h k = refl
    largest (suc (suc x)) y h k = absurd (omega arith)
    largest x (suc (suc y)) h k = absurd (omega arith)

pub in_and : (a b i : ℕ) → in_word (bit_and a b) i ≡ (in_word a i && in_word b i)
unfolding in_word
in_and a b i = rw (bit_at_and a b i) (least (bit_at a i) (bit_at b i) (bit_at-lt a i) (bit_at-lt b i))
  where
    least : (x y : ℕ) → x < 2 → y < 2 → (min x y == 1) ≡ ((x == 1) && (y == 1))
    least zero zero h k = refl
    least zero (suc zero) h k = refl
    least (suc zero) zero h k = refl
    least (suc zero) (suc zero) h k = refl
    least (suc (suc x)) y h k = absurd (omega arith)
    least x (suc (suc y)) h k = absurd (omega arith)

-- `w | (1 << k)`
pub set_same : (w k : ℕ) → k < 64 → in_word (bit_or w (1 * 2 ^ k % 2 ^ 64)) k ≡ true
set_same w k h = in_one _ k (bit_at_set_same w64 w k h)

pub set_other : (w k i : ℕ) → k < 64 → i ≢ k → in_word (bit_or w (1 * 2 ^ k % 2 ^ 64)) i ≡ in_word w i
unfolding in_word
set_other w k i h n = rw (bit_at_set_other w64 w k h i n) refl

-- `w & !(1 << k)`
pub clear_same : (w k : ℕ) → k < 64 → in_word (bit_and w (bit_not w64 (1 * 2 ^ k % 2 ^ 64))) k ≡ false
clear_same w k h = out_zero _ k (bit_at_clear_same w64 w k h)

pub clear_other : (w k i : ℕ) → k < 64 → i < 64 → i ≢ k → in_word (bit_and w (bit_not w64 (1 * 2 ^ k % 2 ^ 64))) i ≡ in_word w i
unfolding in_word
clear_other w k i h b n = rw (bit_at_clear_other w64 w k h i b n) refl

-- the lowest bit of a word that is not 0
pub lowest : (w : ℕ) → 0 < w → w < 2 ^ 64
    → (trailing_zeros w64 w < 64) × (in_word w (trailing_zeros w64 w) ≡ true) ×
    ((i : ℕ) → i < trailing_zeros w64 w → in_word w i ≡ false)
lowest w h b =
    let l = bit_at-trailing_zeros w64 w h b in
    (l.0, in_one w _ l.1, λ i k. out_zero w i (l.2 i k))

-- a bit is the same number in both
pub same_digit : (a b i : ℕ) → in_word a i ≡ in_word b i → bit_at a i ≡ bit_at b i
same_digit a b i e =
    ⊎_elim
    (λ (t : in_word b i ≡ true). one_in a i (e ∙ t) ∙ sym (one_in b i t))
    (λ (f : in_word b i ≡ false). zero_out a i (e ∙ f) ∙ sym (zero_out b i f))
    (cases_Bool (in_word b i))

-- words with the same bits are equal
pub same_word : (a b : ℕ) → a < 2 ^ 64 → b < 2 ^ 64 → ((i : ℕ) → i < 64 → in_word a i ≡ in_word b i) → a ≡ b
same_word a b h k e = same_from_bits_below 64 a b h k (λ i l. same_digit a b i (e i l))

-- `a | b` is `a` where it has the same bits
pub same_or : (a b : ℕ) → b < 2 ^ 64 → ((i : ℕ) → i < 64 → in_word (bit_or a b) i ≡ in_word a i) → bit_or a b ≡ a
same_or a b h e =
    same_from_bits (bit_or a b) a (λ i. ⊎_elim
    (λ (l : i < 64). same_digit (bit_or a b) a i (e i l))
    (λ (l : 64 ≤ i). rw (bit_at_or a b i, bit_at_above b 64 i h l) (omega arith))
    (cases_lt i 64))

and_with : (x y : Bool) → y ≡ true → (x && y) ≡ x
and_with true y h = h
and_with false y h = refl

-- `1 << k` is a power of two
power : (k : ℕ) → k < 64 → 1 * 2 ^ k % 2 ^ 64 ≡ 2 ^ k
power k h =
    let b : 2 ^ k < 2 ^ 64 = pow_below k 64 h in
    omega arith

-- `w & (MAX << k)`
pub high_unset : (w k i : ℕ) → k < 64 → i < k → in_word (bit_and w ((2 ^ 64 - 1) * 2 ^ k % 2 ^ 64)) i ≡ false
high_unset w k i h l =
    let m : in_word ((2 ^ 64 - 1) * 2 ^ k % 2 ^ 64) i ≡ false = out_zero ((2 ^ 64 - 1) * 2 ^ k % 2 ^ 64) i
    (rw (ones_shl 64 k (omega arith)) (bit_at_mask_below k 64 i l)) in
    in_and w ((2 ^ 64 - 1) * 2 ^ k % 2 ^ 64) i ∙ and_right (in_word w i) (in_word ((2 ^ 64 - 1) * 2 ^ k % 2 ^ 64) i) m

pub high_same : (w k i : ℕ) → k < 64 → k ≤ i → i < 64 → in_word (bit_and w ((2 ^ 64 - 1) * 2 ^ k % 2 ^ 64)) i ≡ in_word w i
high_same w k i h l b =
    let m : in_word ((2 ^ 64 - 1) * 2 ^ k % 2 ^ 64) i ≡ true = in_one ((2 ^ 64 - 1) * 2 ^ k % 2 ^ 64) i
    (rw (ones_shl 64 k (omega arith)) (bit_at_mask_inside k 64 i l b)) in
    in_and w ((2 ^ 64 - 1) * 2 ^ k % 2 ^ 64) i ∙ and_with (in_word w i) (in_word ((2 ^ 64 - 1) * 2 ^ k % 2 ^ 64) i) m

-- `w & ((1 << k) - 1)`
pub low_same : (w k i : ℕ) → k < 64 → i < k → in_word (bit_and w (1 * 2 ^ k % 2 ^ 64 - 1)) i ≡ in_word w i
low_same w k i h l =
    let m : in_word (1 * 2 ^ k % 2 ^ 64 - 1) i ≡ true = in_one (1 * 2 ^ k % 2 ^ 64 - 1) i
    (rw (power k h) (bit_at_ones k i l)) in
    in_and w (1 * 2 ^ k % 2 ^ 64 - 1) i ∙ and_with (in_word w i) (in_word (1 * 2 ^ k % 2 ^ 64 - 1) i) m

pub low_unset : (w k i : ℕ) → k < 64 → k ≤ i → in_word (bit_and w (1 * 2 ^ k % 2 ^ 64 - 1)) i ≡ false
low_unset w k i h l =
    let m : in_word (1 * 2 ^ k % 2 ^ 64 - 1) i ≡ false = out_zero (1 * 2 ^ k % 2 ^ 64 - 1) i
    (rw (power k h) (bit_at_ones_above k i l)) in
    in_and w (1 * 2 ^ k % 2 ^ 64 - 1) i ∙ and_right (in_word w i) (in_word (1 * 2 ^ k % 2 ^ 64 - 1) i) m
