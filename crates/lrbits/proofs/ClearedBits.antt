-- Words whose bits past a place are made zero.
use Rattle.std.proofs.Common.{◌≡◌, ℕ, ◌+◌, ◌-◌, ◌*◌, ◌/◌, ◌%◌, ◌^◌, ◌<◌, ◌≤◌, false, List, length, get_or, set, refl, ◌∙◌, arith, ⊎_elim}
use Rattle.std.specs.Int.RustNames.{bit_and}
use Rattle.std.proofs.lemmas.Bool.{cases_eq}
use Rattle.std.proofs.lemmas.List.{get_or_past}
use Rattle.lrbits.specs.Words.{word_bit, AreUnusedZero}
use Rattle.lrbits.proofs.WordBits.{in_zero, low_same, low_unset}
use Rattle.lrbits.proofs.PackedBits.{bit_of_set, bit_of_other}

-- no bit past the words is set
pub past_words : (ws : List ℕ) (i : ℕ) → length ws ≤ i / 64 → word_bit ws i ≡ false
past_words ws i h = rw (get_or_past ws (i / 64) 0 h) (in_zero (i % 64))

module _ (n : ℕ) (ws : List ℕ) (count : length ws ≡ (n + 63) / 64) where
  -- where the last word is used whole
  pub whole_unused : n % 64 ≡ 0 → AreUnusedZero n ws
  whole_unused h i l = past_words ws i (omega arith)

  module _ (part : 0 < n % 64) where
    pub cleared_used : (i : ℕ) → i < n
        → word_bit (set ws (n / 64) (bit_and (get_or ws (n / 64) 0) (1 * 2 ^ (n % 64) % 2 ^ 64 - 1))) i ≡ word_bit ws i
    cleared_used i h =
        ⊎_elim
        (λ (e : i / 64 ≡ n / 64). bit_of_set ws (n / 64) (bit_and (get_or ws (n / 64) 0) (1 * 2 ^ (n % 64) % 2 ^ 64 - 1)) i
        (omega arith) e ∙ low_same (get_or ws (n / 64) 0) (n % 64) (i % 64) (omega arith) (omega arith) ∙ rw e refl)
        (λ (d : i / 64 ≡ n / 64 → ⊥). bit_of_other ws (n / 64) _ i d)
        (cases_eq (i / 64) (n / 64))

    pub cleared_unused : AreUnusedZero n (set ws (n / 64) (bit_and (get_or ws (n / 64) 0) (1 * 2 ^ (n % 64) % 2 ^ 64 - 1)))
    cleared_unused i h =
        ⊎_elim
        (λ (e : i / 64 ≡ n / 64). bit_of_set ws (n / 64) (bit_and (get_or ws (n / 64) 0) (1 * 2 ^ (n % 64) % 2 ^ 64 - 1)) i
        (omega arith) e ∙ low_unset (get_or ws (n / 64) 0) (n % 64) (i % 64) (omega arith) (omega arith))
        (λ (d : i / 64 ≡ n / 64 → ⊥). bit_of_other ws (n / 64) _ i d ∙ past_words ws i (omega arith))
        (cases_eq (i / 64) (n / 64))
