-- A vector of bits that are all one value.
use Rattle.std.proofs.Common.{◌≡◌, ℕ, ◌+◌, ◌/◌, ◌%◌, ◌<◌, Bool, false, List, length, replicate, sym, ◌∙◌, arith}
use Rattle.std.proofs.lemmas.List.{get_or-replicate}
use Rattle.std.proofs.Math.ListN.{length-replicate}
use Rattle.lrbits.specs.Words.{in_word, word_bit, first_bits, Packs, AreUnusedZero}
use Rattle.lrbits.proofs.PackedBits.{first_bits_are}

-- the bits of one word many times
pub filled_bit : (m w : ℕ) (value : Bool) → ((i : ℕ) → i < 64 → in_word w i ≡ value) → (i : ℕ) → i / 64 < m
    → word_bit (replicate m w) i ≡ value
filled_bit m w value h i l = rw (get_or-replicate m (i / 64) w 0 l) (h (i % 64) (omega arith))

pub filled_list : (n : ℕ) (ws : List ℕ) (value : Bool) → ((i : ℕ) → i < n → word_bit ws i ≡ value)
    → first_bits n ws ≡ replicate n value
filled_list n ws value h =
    first_bits_are n ws (replicate n value) (length-replicate n value) (λ i l. h i l ∙ sym (get_or-replicate n i value false l))

pub filled_packs : (n : ℕ) (ws : List ℕ) → length ws ≡ (n + 63) / 64 → AreUnusedZero n ws → Packs n ws
filled_packs n ws c u = record { count = c; unused = u }
