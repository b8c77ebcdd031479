-- which of the displacements behind one another some column meets an owned place at
use Rattle.std.proofs.Common.{◌≡◌, ◌⊎◌, ◌↔◌, ℕ, ◌+◌, ◌*◌, ◌/◌, ◌%◌, ◌^◌, ◌-◌, ◌<◌, ◌≤◌, List, length, slice_index, bit_or, sym, ap, ◌∙◌, inl, inr, arith}
use Rattle.std.proofs.lemmas.Bool.{cases_lt, cases_eq}
use Rattle.std.proofs.lemmas.List.{get_or_past}
use Rattle.std.proofs.lemmas.Nat.Bits.{bit_at_or, bit_at-lt, bit_at_ones}
use Rattle.std.specs.Int.{bit_at}
use Rattle.lrsparse.specs.Owned.{IsOwned, AreOwned, MeetsNone}
use Rattle.lrsparse.proofs.OwnedBits.{none_owned_past}

either_bit : (a b i : ℕ) → bit_at (bit_or a b) i ≡ 1 → (bit_at a i ≡ 1) ⊎ (bit_at b i ≡ 1)
either_bit a b i h = elim (cases_eq (bit_at a i) 1) [
  | inl e ↦ inl e
  | inr n ↦ inr (omega (arith, bit_at_or a b i, bit_at-lt a i, bit_at-lt b i))
]

neither_bit : (a b i : ℕ) → bit_at (bit_or a b) i ≡ 0 → (bit_at a i ≡ 0) × (bit_at b i ≡ 0)
neither_bit a b i h = (omega (arith, bit_at_or a b i), omega (arith, bit_at_or a b i))

module _
    (words columns : List ℕ) (displacement from index : ℕ) (l : index < length columns)
    (places : (i : ℕ) → i < 64 → (bit_at from i ≡ 1) ↔ IsOwned words (displacement + slice_index columns index + i))
  where
    met_there : (i : ℕ) → i < 64 → (bit_at from i ≡ 1) ↔ IsOwned words (displacement + i + slice_index columns index)
    met_there i h =
        let same : displacement + slice_index columns index + i ≡ displacement + i + slice_index columns index = omega arith in
        rw same at (places i h)

    -- where a bit is set, the column meets an owned place
    pub met_by_one : (i : ℕ) → i < 64 → bit_at from i ≡ 1 → MeetsNone words columns (displacement + i) → ⊥
    met_by_one i h b none = none index l ((met_there i h).0 b)

    -- the same of the columns before it and itself: where a bit is set, one of them meets an owned place
    pub met_more :
        (met : ℕ) → ((i : ℕ) → i < 64 → bit_at met i ≡ 1 → MeetsNone words columns (displacement + i) → ⊥)
        → (i : ℕ) → i < 64 → bit_at (bit_or met from) i ≡ 1 → MeetsNone words columns (displacement + i) → ⊥
    met_more met before i h b = elim (either_bit met from i b) [
      | inl e ↦ before i h e
      | inr e ↦ met_by_one i h e
    ]

    -- where one is not set, none of the columns so far meets one
    pub unmet_more :
        (met : ℕ) → ((i : ℕ) → i < 64 → bit_at met i ≡ 0 → (k : ℕ) → k < index → IsOwned words (displacement + i + slice_index columns k) → ⊥)
        → (i : ℕ) → i < 64 → bit_at (bit_or met from) i ≡ 0 → (k : ℕ) → k < index + 1 → IsOwned words (displacement + i + slice_index columns k) → ⊥
    unmet_more met before i h b k m o = elim (cases_eq k index) [
      | inl e ↦
          let set : bit_at from i ≡ 1 = (met_there i h).1 (rw e at o) in
          let none = neither_bit met from i b in
          absurd (omega (arith, none.1))
      | inr n ↦ before i h (neither_bit met from i b).0 k (omega arith) o
    ]

-- all are met where every bit is set
pub none_unmet : (met i : ℕ) → i < 64 → met ≡ 2 ^ 64 - 1 → bit_at met i ≡ 0 → ⊥
none_unmet met i h e z = omega (arith, bit_at_ones 64 i h, ap (λ n. bit_at n i) (sym e) ∙ z)

module _
    (words columns : List ℕ) (displacement met : ℕ)
    (meets : (i : ℕ) → i < 64 → bit_at met i ≡ 1 → MeetsNone words columns (displacement + i) → ⊥)
    (none : (d : ℕ) → d < displacement → MeetsNone words columns d → ⊥)
  where
    -- none fits below the first bit that is not set
    pub none_below : (n : ℕ) → n ≤ 64 → ((i : ℕ) → i < n → bit_at met i ≡ 1) → (d : ℕ) → d < displacement + n → MeetsNone words columns d → ⊥
    none_below n l ones d h = elim (cases_lt d displacement) [
      | inl k ↦ none d k
      | inr k ↦
          let same : displacement + (d - displacement) ≡ d = omega arith in
          rw same at (meets (d - displacement) (omega arith) (ones (d - displacement) (omega arith)))
    ]

    -- past the words each fits
    pub met_within : bit_at met 0 ≡ 1 → displacement < 64 * length words
    met_within b = elim (cases_lt displacement (64 * length words)) [
      | inl k ↦ k
      | inr k ↦ absurd (meets 0 (omega arith) b (λ j l. none_owned_past words (displacement + 0 + slice_index columns j) (omega arith)))
    ]

-- every bit is set
pub all_set : (met i : ℕ) → i < 64 → met ≡ 2 ^ 64 - 1 → bit_at met i ≡ 1
all_set met i h e = ap (λ n. bit_at n i) e ∙ bit_at_ones 64 i h

-- one word more is wholly owned
pub full_more : (words : List ℕ) (full : ℕ) → AreOwned words (64 * full) → slice_index words full ≡ 2 ^ 64 - 1 → AreOwned words (64 * (full + 1))
full_more words full owned whole p l = elim (cases_lt p (64 * full)) [
  | inl k ↦ owned p k
  | inr k ↦ let word : p / 64 ≡ full = omega arith in all_set (slice_index words (p / 64)) (p % 64) (omega arith) (ap (slice_index words) word ∙ whole)
]

-- a word that is wholly owned is one of the words
pub word_within : (words : List ℕ) (full : ℕ) → slice_index words full ≡ 2 ^ 64 - 1 → full < length words
word_within words full whole = elim (cases_lt full (length words)) [
  | inl k ↦ k
  | inr k ↦ absurd (omega (arith, get_or_past words full 0 k))
]

-- and so are all of them
pub full_within : (words : List ℕ) (n : ℕ) → AreOwned words n → n ≤ 64 * length words
full_within words n owned = elim (cases_lt (64 * length words) n) [
  | inl k ↦ absurd (none_owned_past words (64 * length words) (omega arith) (owned (64 * length words) k))
  | inr k ↦ k
]
