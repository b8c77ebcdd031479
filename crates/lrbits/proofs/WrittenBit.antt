-- A vector of bits after one of them was written.
use Rattle.std.proofs.Common.{◌≡◌, ℕ, ◌/◌, ◌%◌, ◌<◌, ◌≢◌, Bool, false, List, get_or, set, refl, sym, ◌∙◌, arith, length-set, get_or-set_same, ⊎_elim}
use Rattle.std.proofs.lemmas.Bool.{cases_eq}
use Rattle.std.proofs.lemmas.List.{get_or-set_other}
use Rattle.lrbits.specs.Words.{in_word, word_bit, first_bits, Packs}
use Rattle.lrbits.proofs.PackedBits.{length-first_bits, bit_below, first_bits_are, bit_of_set, bit_of_other}

module _ (n : ℕ) (ws : List ℕ) (i w : ℕ) (value : Bool) (packs : Packs n ws) (below : i < n)
    (written : in_word w (i % 64) ≡ value) (kept : (k : ℕ) → k < 64 → k ≢ i % 64
    → in_word w k ≡ in_word (get_or ws (i / 64) 0) k) where
  written_bit : word_bit (set ws (i / 64) w) i ≡ value
  written_bit = bit_of_set ws (i / 64) w i (omega (arith, packs.count)) refl ∙ written

  kept_bit : (k : ℕ) → k ≢ i → word_bit (set ws (i / 64) w) k ≡ word_bit ws k
  kept_bit k d =
      ⊎_elim
      (λ (e : k / 64 ≡ i / 64). bit_of_set ws (i / 64) w k (omega (arith, packs.count)) e
      ∙ kept (k % 64) (omega arith) (λ f. d (omega arith)) ∙ rw e refl)
      (λ (f : k / 64 ≡ i / 64 → ⊥). bit_of_other ws (i / 64) w k f)
      (cases_eq (k / 64) (i / 64))

  pub written_packs : Packs n (set ws (i / 64) w)
  written_packs = record {
    count = length-set ws (i / 64) w ∙ packs.count;
    unused = λ k h. kept_bit k (λ e. omega arith) ∙ packs.unused k h;
  }

  pub written_list : first_bits n (set ws (i / 64) w) ≡ set (first_bits n ws) i value
  written_list =
      first_bits_are n (set ws (i / 64) w) (set (first_bits n ws) i value) (length-set (first_bits n ws) i value
      ∙ length-first_bits n ws) (λ k h. ⊎_elim
      (λ (e : k ≡ i). rw
      (e, get_or-set_same (first_bits n ws) i value false (omega (arith, length-first_bits n ws))) written_bit)
      (λ (d : k ≡ i → ⊥). kept_bit k d ∙ sym (bit_below n ws k h) ∙ sym (get_or-set_other (first_bits n ws) i k value false d))
      (cases_eq k i))
