-- The set places that an iterator over words has left.
use Rattle.std.proofs.Common.{◌≡◌, ℕ, zero, suc, ◌+◌, ◌-◌, ◌*◌, ◌/◌, ◌%◌, ◌^◌, ◌<◌, ◌≤◌, ◌≢◌, true, false, List, [], ◌∷◌, length, get_or, set, refl, sym, ap, ◌∙◌, arith, w64, ⊎_elim}
use Rattle.std.specs.Int.{bit_not, trailing_zeros}
use Rattle.std.specs.Int.RustNames.{bit_and}
use Rattle.std.proofs.lemmas.Bool.{cases_lt}
use Rattle.std.proofs.lemmas.List.{set-get_or}
use Rattle.lrbits.specs.Bits.{places}
use Rattle.lrbits.specs.Words.{in_word, word_bit, bits_from, places_left}
use Rattle.lrbits.proofs.WordBits.{in_zero, clear_same, clear_other, lowest}
use Rattle.lrbits.proofs.PackedBits.{bit_of_set, bit_of_other}

-- the bits of a range depend on no others
pub same_range : (ws vs : List ℕ) (i n : ℕ) → ((k : ℕ) → i ≤ k → k < i + n → word_bit ws k ≡ word_bit vs k)
    → bits_from ws i n ≡ bits_from vs i n
same_range ws vs i zero h = refl
same_range ws vs i (suc n) h =
    let a = h i (omega arith) (omega arith) in
    let b = same_range ws vs (i + 1) n (λ k l m. h k (omega arith) (omega arith)) in
    cc

-- places that are not set are passed over
pub skip_unset : (ws : List ℕ) (i j n : ℕ) → j ≤ n → ((k : ℕ) → i ≤ k → k < i + j → word_bit ws k ≡ false)
    → places i (bits_from ws i n) ≡ places (i + j) (bits_from ws (i + j) (n - j))
skip_unset ws i zero n b h =
    let e : i + 0 ≡ i = omega arith in
    let f : n - 0 ≡ n = omega arith in
    rw (e, f) refl
skip_unset ws i (suc j) zero b h = absurd (omega arith)
skip_unset ws i (suc j) (suc n) b h =
    let e : i + suc j ≡ (i + 1) + j = omega arith in
    let f : suc n - suc j ≡ n - j = omega arith in
    let z : word_bit ws i ≡ false = h i (omega arith) (omega arith) in
    rw (z, e, f) (skip_unset ws (i + 1) j n (omega arith) (λ k l m. h k (omega arith) (omega arith)))

pub none_set : (ws : List ℕ) (i n : ℕ) → ((k : ℕ) → i ≤ k → k < i + n → word_bit ws k ≡ false)
    → places i (bits_from ws i n) ≡ []
none_set ws i n h =
    let e : n - n ≡ 0 = omega arith in
    skip_unset ws i n n (omega arith) h ∙ rw e refl

-- the first set place, before those of words that have all others
pub first_set : (ws vs : List ℕ) (i n t : ℕ) → i ≤ t → t < i + n → word_bit ws t ≡ true → word_bit vs t ≡ false
    → ((k : ℕ) → i ≤ k → k < t → word_bit ws k ≡ false) → ((k : ℕ) → i ≤ k → k < i + n → k ≢ t → word_bit vs k ≡ word_bit
    ws k) → places i (bits_from ws i n) ≡ t ∷ places i (bits_from vs i n)
first_set ws vs i n t a b s z below others =
    let e : i + (t - i) ≡ t = omega arith in
    let f : n - (t - i) ≡ suc (n - (t - i) - 1) = omega arith in
    let p = skip_unset ws i (t - i) n (omega arith) (λ k l m. below k l (omega arith)) in
    let q = skip_unset vs i (t - i) n (omega arith) (λ k l m. others k l (omega arith) (λ x. omega arith)
    ∙ below k l (omega arith)) in
    let r = same_range ws vs (t + 1) (n - (t - i) - 1)
    (λ k l m. sym (others k (omega arith) (omega arith) (λ x. omega arith))) in
    let g : places t (bits_from ws t (suc (n - (t - i) - 1))) ≡ t ∷ places (t + 1)
    (bits_from vs (t + 1) (n - (t - i) - 1)) = rw (s, r) refl in
    let h : places t (bits_from vs t (suc (n - (t - i) - 1)))
    ≡ places (t + 1) (bits_from vs (t + 1) (n - (t - i) - 1)) = rw z refl in
    rw (e, f) at p ∙ g ∙ ap (λ x. t ∷ x) (sym (rw (e, f) at q ∙ h))

module _ (ws : List ℕ) (base end : ℕ) (whole : base % 64 ≡ 0) (within : end ≤ 64 * length ws) where
  -- a bit of the word that is left, below the end
  pub bit_left : (w k : ℕ) → base ≤ k → k < end → k < base + 64 → word_bit (set ws (base / 64) w) k ≡ in_word w (k - base)
  bit_left w k l b h =
      let e : k % 64 ≡ k - base = omega arith in
      bit_of_set ws (base / 64) w k (omega arith) (omega arith) ∙ rw e refl

  -- an empty word, before another
  pub next_word : 64 < end - base → places_left ws 0 base end ≡ places_left ws (get_or ws ((base + 64) / 64) 0) (base + 64) end
  unfolding places_left
  next_word h =
      let e : end - base - 64 ≡ end - (base + 64) = omega arith in
      rw set-get_or
      (skip_unset (set ws (base / 64) 0) base 64 (end - base) (omega arith) (λ k l m. bit_left 0 k l (omega arith) m
      ∙ in_zero (k - base))
      ∙ rw e (ap (places (base + 64))
      (same_range (set ws (base / 64) 0) ws (base + 64) (end - (base + 64))
      (λ k l m. bit_of_other ws (base / 64) 0 k (λ x. omega arith)))))

  -- an empty word, and none after it
  pub no_word : end - base ≤ 64 → places_left ws 0 base end ≡ []
  unfolding places_left
  no_word h =
      none_set (set ws (base / 64) 0) base (end - base) (λ k l m. bit_left 0 k l (omega arith) (omega arith)
      ∙ in_zero (k - base))

  module _ (w : ℕ) (some : 0 < w) (fits : w < 2 ^ 64) where
    -- the word without its lowest bit
    abbrev rest : ℕ
    rest = bit_and w (bit_not w64 (1 * 2 ^ trailing_zeros w64 w % 2 ^ 64))

    -- no bit below it is set in the word, and it is not in the rest
    below : (k : ℕ) → base ≤ k → k < end → k < base + trailing_zeros w64 w → in_word w (k - base) ≡ false
    below k l b h = (lowest w some fits).2 (k - base) (omega arith)

    other : (k : ℕ) → base ≤ k → k < end → k ≢ base + trailing_zeros w64 w
        → word_bit (set ws (base / 64) rest) k ≡ word_bit (set ws (base / 64) w) k
    other k l b n =
        ⊎_elim
        (λ (h : k < base + 64). bit_left rest k l b h
        ∙ clear_other w (trailing_zeros w64 w) (k - base) (lowest w some fits).0 (omega arith) (λ e. n (omega arith))
        ∙ sym (bit_left w k l b h))
        (λ (h : base + 64 ≤ k). bit_of_other ws (base / 64) rest k (λ e. omega arith)
        ∙ sym (bit_of_other ws (base / 64) w k (λ e. omega arith)))
        (cases_lt k (base + 64))

    pub lowest_place : base + trailing_zeros w64 w < end
        → places_left ws w base end ≡ (base + trailing_zeros w64 w) ∷ places_left ws rest base end
    unfolding places_left
    lowest_place h =
        let t = trailing_zeros w64 w in
        let l = lowest w some fits in
        let e : (base + t) - base ≡ t = omega arith in
        let b : base + t < base + 64 = omega (arith, l.0) in
        first_set (set ws (base / 64) w) (set ws (base / 64) rest) base (end - base) (base + t) (omega arith) (omega arith)
        (bit_left w (base + t) (omega arith) h b ∙ rw e l.1)
        (bit_left rest (base + t) (omega arith) h b ∙ rw e (clear_same w t l.0))
        (λ k m n. bit_left w k m (omega arith) (omega arith) ∙ below k m (omega arith) n)
        (λ k m n. other k m (omega arith))

    pub past_end : end ≤ base + trailing_zeros w64 w → (places_left ws w base end ≡ []) × (places_left ws rest base end ≡ [])
    unfolding places_left
    past_end h =
        let l : trailing_zeros w64 w < 64 = (lowest w some fits).0 in (
          none_set (set ws (base / 64) w) base (end - base) (λ k m n. bit_left w k m (omega arith) (omega arith)
              ∙ below k m (omega arith) (omega arith)),
          none_set (set ws (base / 64) rest) base (end - base) (λ k m n. other k m (omega arith) (λ e. omega arith)
              ∙ bit_left w k m (omega arith) (omega arith) ∙ below k m (omega arith) (omega arith)),
        )
