-- the places of a word, and those that stand in two
use Rattle.std.proofs.Common.{◌≡◌, ◌≢◌, ◌⊎◌, ◌↔◌, ℕ, ◌+◌, ◌-◌, ◌*◌, ◌/◌, ◌%◌, ◌^◌, ◌<◌, ◌≤◌, List, length, slice_index, slice_set, bit_or, w64, refl, sym, ap, ◌∙◌, inl, inr, arith, get_or-set_other, get_or-set_same}
use Rattle.std.proofs.Math.Nat.{div-div-eq-div-mul}
use Rattle.std.proofs.lemmas.List.{get_or_past}
use Rattle.std.proofs.lemmas.Bool.{cases_lt, cases_eq}
use Rattle.std.proofs.lemmas.Nat.{pow-add, pow_pos}
use Rattle.std.proofs.lemmas.Nat.Bits.{bit_at_or, bit_at_above, bit_at_cat_low, bit_at_cat_high, bit_at-zero, bit_at_set_same, bit_at_set_other}
use Rattle.std.specs.Int.{bit_at}
use Rattle.lrsparse.specs.Owned.{IsOwned}

bit_of_shr : (n s i : ℕ) → bit_at (n / 2 ^ s) i ≡ bit_at n (s + i)
bit_of_shr n s i = ap (λ m. m % 2) (div-div-eq-div-mul n (2 ^ s) (2 ^ i) ∙ ap (λ m. n / m) (sym (pow-add 2 s i)))

bit_of_word : (m i : ℕ) → i < 64 → bit_at (m % 2 ^ 64) i ≡ bit_at m i
bit_of_word m i l =
    let whole : m / 2 ^ 64 * 2 ^ 64 + m % 2 ^ 64 ≡ m = omega arith in
    sym (bit_at_cat_low (m / 2 ^ 64) 64 (m % 2 ^ 64) i l) ∙ ap (λ n. bit_at n i) whole

bit_of_shl_low : (n s i : ℕ) → i < 64 → i < s → bit_at (n * 2 ^ s % 2 ^ 64) i ≡ 0
bit_of_shl_low n s i l h =
    let none : n * 2 ^ s ≡ n * 2 ^ s + 0 = omega arith in
    bit_of_word (n * 2 ^ s) i l ∙ (ap (λ m. bit_at m i) none ∙ (bit_at_cat_low n s 0 i h ∙ bit_at-zero i))

bit_of_shl_high : (n s i : ℕ) → i < 64 → s ≤ i → 0 < 2 ^ s → bit_at (n * 2 ^ s % 2 ^ 64) i ≡ bit_at n (i - s)
bit_of_shl_high n s i l h p =
    let none : n * 2 ^ s ≡ n * 2 ^ s + 0 = omega arith in
    bit_of_word (n * 2 ^ s) i l ∙ (ap (λ m. bit_at m i) none ∙ bit_at_cat_high n s 0 i p h)

-- the bits from the place `b` of a word on, and those of the next word behind them
module _ (low high b i : ℕ) (l : i < 64) where
  low_bit : 0 < b → b + i < 64 → bit_at (bit_or (low / 2 ^ b) (high * 2 ^ (64 - b) % 2 ^ 64)) i ≡ bit_at low (b + i)
  low_bit p h =
      bit_at_or (low / 2 ^ b) (high * 2 ^ (64 - b) % 2 ^ 64) i
      ∙ rw (bit_of_shl_low high (64 - b) i l (omega arith), bit_of_shr low b i) (omega arith)

  high_bit : low < 2 ^ 64 → b < 64 → 64 ≤ b + i → bit_at (bit_or (low / 2 ^ b) (high * 2 ^ (64 - b) % 2 ^ 64)) i ≡ bit_at high (b + i - 64)
  high_bit r q h =
      let some : 0 < 2 ^ (64 - b) = pow_pos (64 - b) in
      let place : i - (64 - b) ≡ b + i - 64 = omega arith in
      bit_at_or (low / 2 ^ b) (high * 2 ^ (64 - b) % 2 ^ 64) i
      ∙ rw (bit_of_shl_high high (64 - b) i l (omega arith) some, bit_of_shr low b i, bit_at_above low 64 (b + i) r h, place) (omega arith)

-- a place is owned as its bit among the places from another one on says
module _ (words : List ℕ) (place i : ℕ) (l : i < 64) where
  pub bit_of_two :
      0 < place % 64 → slice_index words (place / 64) < 2 ^ 64
      → bit_at (bit_or (slice_index words (place / 64) / 2 ^ (place % 64)) (slice_index words (place / 64 + 1) * 2 ^ (64 - place % 64) % 2 ^ 64)) i
      ≡ bit_at (slice_index words ((place + i) / 64)) ((place + i) % 64)
  bit_of_two h r = elim (cases_lt (place % 64 + i) 64) [
    | inl k ↦
        let word : (place + i) / 64 ≡ place / 64 = omega arith in
        let bit : (place + i) % 64 ≡ place % 64 + i = omega arith in
        rw (word, bit) (low_bit (slice_index words (place / 64)) (slice_index words (place / 64 + 1)) (place % 64) i l h k)
    | inr k ↦
        let word : (place + i) / 64 ≡ place / 64 + 1 = omega arith in
        let bit : (place + i) % 64 ≡ place % 64 + i - 64 = omega arith in
        rw (word, bit) (high_bit (slice_index words (place / 64)) (slice_index words (place / 64 + 1)) (place % 64) i l r (omega arith) k)
  ]

-- one place more that is owned
module _ (words : List ℕ) (place : ℕ) (l : place < 64 * length words) where
  abbrev with_place : List ℕ
  with_place = slice_set words (place / 64) (bit_or (slice_index words (place / 64)) (1 * 2 ^ (place % 64) % 2 ^ 64))

  there : IsOwned with_place place
  there =
      let within : place / 64 < length words = omega arith in
      rw (get_or-set_same words (place / 64) (bit_or (slice_index words (place / 64)) (1 * 2 ^ (place % 64) % 2 ^ 64)) 0 within)
      (bit_at_set_same w64 (slice_index words (place / 64)) (place % 64) (omega arith))

  elsewhere : (p : ℕ) → p ≢ place → bit_at (slice_index with_place (p / 64)) (p % 64) ≡ bit_at (slice_index words (p / 64)) (p % 64)
  elsewhere p ne = elim (cases_eq (p / 64) (place / 64)) [
    | inl e ↦
        let within : place / 64 < length words = omega arith in
        let bit : p % 64 ≢ place % 64 = omega arith in
        rw (e, get_or-set_same words (place / 64) (bit_or (slice_index words (place / 64)) (1 * 2 ^ (place % 64) % 2 ^ 64)) 0 within)
        (bit_at_set_other w64 (slice_index words (place / 64)) (place % 64) (omega arith) (p % 64) bit)
    | inr n ↦ rw (get_or-set_other words (place / 64) (p / 64) (bit_or (slice_index words (place / 64)) (1 * 2 ^ (place % 64) % 2 ^ 64)) 0 n) refl
  ]

  pub owned_more : (p : ℕ) → IsOwned with_place p ↔ (IsOwned words p ⊎ (p ≡ place))
  owned_more p = elim (cases_eq p place) [
    | inl e ↦ (λ _. inr e, λ _. rw e there)
    | inr n ↦ (λ h. inl (sym (elsewhere p n) ∙ h), λ h. elim h [ inl o ↦ elsewhere p n ∙ o | inr e ↦ absurd (n e) ])
  ]

-- past the words no place is owned
pub none_owned_past : (words : List ℕ) (place : ℕ) → 64 * length words ≤ place → IsOwned words place → ⊥
none_owned_past words place l h =
    let past : slice_index words (place / 64) ≡ 0 = get_or_past words (place / 64) 0 (omega arith) in
    omega (arith, bit_at-zero (place % 64), rw past at h)
