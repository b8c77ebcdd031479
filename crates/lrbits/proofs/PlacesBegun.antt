-- The set places that an iterator over words has left when it begins.
use Rattle.std.proofs.Common.{◌≡◌, ℕ, zero, suc, ◌+◌, ◌-◌, ◌*◌, ◌/◌, ◌%◌, ◌^◌, ◌<◌, ◌≤◌, List, [], ◌∷◌, length, get_or, set, take, drop, refl, sym, ap, ◌∙◌, arith, ⊎_elim}
use Rattle.std.specs.Int.RustNames.{bit_and}
use Rattle.std.proofs.lemmas.Bool.{cases_lt}
use Rattle.lrbits.specs.Bits.{places, set_places}
use Rattle.lrbits.specs.Words.{word_bit, bits_from, first_bits, places_left}
use Rattle.lrbits.proofs.WordBits.{in_zero, high_unset, high_same}
use Rattle.lrbits.proofs.PackedBits.{bit_of_other}
use Rattle.lrbits.proofs.PlacesLeft.{same_range, skip_unset, none_set, bit_left}

-- a part of the bits
drop_bits : (ws : List ℕ) (a i n : ℕ) → i ≤ n → drop i (bits_from ws a n) ≡ bits_from ws (a + i) (n - i)
drop_bits ws a zero n h =
    let e : a + 0 ≡ a = omega arith in
    let f : n - 0 ≡ n = omega arith in
    rw (e, f) refl
drop_bits ws a (suc i) zero h = absurd (omega arith)
drop_bits ws a (suc i) (suc n) h =
    let e : a + suc i ≡ (a + 1) + i = omega arith in
    let f : suc n - suc i ≡ n - i = omega arith in
    rw (e, f) (drop_bits ws (a + 1) i n (omega arith))

take_bits : (ws : List ℕ) (a m n : ℕ) → m ≤ n → take m (bits_from ws a n) ≡ bits_from ws a m
take_bits ws a zero n h = refl
take_bits ws a (suc m) zero h = absurd (omega arith)
take_bits ws a (suc m) (suc n) h = ap (λ v. word_bit ws a ∷ v) (take_bits ws (a + 1) m n (omega arith))

-- the set places of a range of the first bits
range_places : (n : ℕ) (ws : List ℕ) (from to : ℕ) → from ≤ to → to ≤ n
    → set_places (first_bits n ws) from to ≡ places from (bits_from ws from (to - from))
unfolding first_bits
range_places n ws from to h k =
    let e : 0 + from ≡ from = omega arith in
    let d : drop from (bits_from ws 0 n) ≡ bits_from ws from (n - from) = rw e at (drop_bits ws 0 from n (omega arith)) in
    ap (places from) (ap (take (to - from)) d ∙ take_bits ws from (to - from) (n - from) (omega arith))

module _ (n : ℕ) (ws : List ℕ) (from to base : ℕ) (begun : base ≡ from - from % 64) (order : from ≤ to) (within : to ≤ n)
    (room : n ≤ 64 * length ws) where
  -- the first word of a range that is not empty
  pub begin_word : from < to
      → places_left ws (bit_and (get_or ws (from / 64) 0) ((2 ^ 64 - 1) * 2 ^ (from % 64) % 2 ^ 64)) base to ≡ set_places
      (first_bits n ws) from to
  unfolding places_left
  begin_word h =
      let w = bit_and (get_or ws (from / 64) 0) ((2 ^ 64 - 1) * 2 ^ (from % 64) % 2 ^ 64) in
      let e : base + from % 64 ≡ from = omega arith in
      let f : to - base - from % 64 ≡ to - from = omega arith in
      let s = skip_unset (set ws (base / 64) w) base (from % 64) (to - base) (omega arith)
      (λ k l m. bit_left ws base to (omega arith) (omega arith) w k l (omega arith) (omega arith)
      ∙ high_unset (get_or ws (from / 64) 0) (from % 64) (k - base) (omega arith) (omega arith)) in
      rw (e, f) at s
      ∙ ap (places from) (same_range (set ws (base / 64) w) ws from (to - from) (λ k l m. same k l (omega arith)))
      ∙ sym (range_places n ws from to order within)
    where
      same : (k : ℕ) → from ≤ k → k < to
          → word_bit
          (set ws (base / 64)
          (bit_and (get_or ws (from / 64) 0) ((2 ^ 64 - 1) * 2 ^ (from % 64) % 2 ^ 64))) k ≡ word_bit ws k
      same k l m =
          let w = bit_and (get_or ws (from / 64) 0) ((2 ^ 64 - 1) * 2 ^ (from % 64) % 2 ^ 64) in
          ⊎_elim
          (λ (b : k < base + 64).
          let q : k / 64 ≡ from / 64 = omega arith in
          let r : k - base ≡ k % 64 = omega arith in
          bit_left ws base to (omega arith) (omega arith) w k (omega arith) m b
          ∙ high_same (get_or ws (from / 64) 0) (from % 64) (k - base) (omega arith) (omega arith) (omega arith)
          ∙ rw (q, r) refl)
          (λ (b : base + 64 ≤ k). bit_of_other ws (base / 64) w k (λ x. omega arith))
          (cases_lt k (base + 64))

  -- an empty range
  pub begin_empty : to ≤ from → places_left ws 0 base to ≡ set_places (first_bits n ws) from to
  unfolding places_left
  begin_empty h =
      let z : to - from ≡ 0 = omega arith in
      let e : [] ≡ set_places (first_bits n ws) from to = rw z refl in
      none_set (set ws (base / 64) 0) base (to - base)
      (λ k l m. bit_left ws base to (omega arith) (omega arith) 0 k l (omega arith) (omega arith) ∙ in_zero (k - base)) ∙ e
