-- Bits in words of 64 bits.
use Rattle.std.specs.Int.{bit_at}
use Rattle.std.specs.Prelude.{◌≡◌, ℕ, zero, suc, ◌+◌, ◌-◌, ◌/◌, ◌%◌, ◌≤◌, ◌==◌, Bool, false, List, [], ◌∷◌, length, slice_index_or, slice_set}
use Rattle.lrbits.specs.Bits.{places}

-- whether bit `i` of a word is set, counted from the least
unfoldable pub in_word : ℕ → ℕ → Bool
in_word w i = bit_at w i == 1

-- the bit at place `i` of words: bit `i` mod 64 of word `i` / 64
abbrev pub word_bit : List ℕ → ℕ → Bool
word_bit ws i = in_word (slice_index_or ws (i / 64) 0) (i % 64)

-- words have the same bits
abbrev pub SameBits : List ℕ → List ℕ → Type 0
SameBits ws vs = (i : ℕ) → word_bit ws i ≡ word_bit vs i

-- `n` bits of words, from place `i` on
abbrev pub bits_from : List ℕ → ℕ → ℕ → List Bool
bits_from ws i zero = []
bits_from ws i (suc n) = word_bit ws i ∷ bits_from ws (i + 1) n

-- the first `n` bits of words
unfoldable pub first_bits : ℕ → List ℕ → List Bool
first_bits n ws = bits_from ws 0 n

-- each bit from place `n` on is zero
abbrev pub AreUnusedZero : ℕ → List ℕ → Type 0
AreUnusedZero n ws = (i : ℕ) → n ≤ i → word_bit ws i ≡ false

-- the words are those of `n` bits: no more than these need, and the bits that are not used are zero
pub record Packs (n : ℕ) (ws : List ℕ) : Type 0 where
  pub count : length ws ≡ (n + 63) / 64
  pub unused : AreUnusedZero n ws

-- the set places from `base` up to `end`, where `word` stands for what is left of the word at `base`
unfoldable pub places_left : List ℕ → ℕ → ℕ → ℕ → List ℕ
places_left ws word base end =
    places base (bits_from (slice_set ws (base / 64) word) base (end - base))
