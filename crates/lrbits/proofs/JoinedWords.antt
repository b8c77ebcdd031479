-- The words of a union while they are made, one word more at a time.
use Rattle.std.proofs.Common.{◌≡◌, ℕ, ◌+◌, ◌/◌, ◌%◌, ◌^◌, ◌<◌, ◌≤◌, ◌≢◌, ◌||◌, List, length, get_or, set, refl, sym, ap, ◌∙◌, arith, ⊎_elim, get_or-set_same}
use Rattle.std.specs.Int.RustNames.{bit_or}
use Rattle.std.proofs.lemmas.Bool.{cases_eq, cases_lt}
use Rattle.std.proofs.lemmas.List.{get_or-set_other, get_or_past}
use Rattle.lrbits.specs.Words.{in_word, word_bit, SameBits}
use Rattle.lrbits.proofs.WordBits.{in_or, in_zero, same_or}
use Rattle.lrbits.proofs.PackedBits.{bits_of_same}

-- a word is that of both, below word `i`
abbrev pub AreJoined : List ℕ → List ℕ → List ℕ → ℕ → Type 0
AreJoined ws vs other i = (k : ℕ) → k < i → get_or ws k 0 ≡ bit_or (get_or vs k 0) (get_or other k 0)

-- a word is as it was, from word `i` on
abbrev pub AreLeft : List ℕ → List ℕ → ℕ → Type 0
AreLeft ws vs i = (k : ℕ) → i ≤ k → get_or ws k 0 ≡ get_or vs k 0

-- some word below word `i` is another than it was
abbrev pub IsChanged : List ℕ → List ℕ → ℕ → Type 0
IsChanged ws vs i = (k : ℕ) × (k < i) × (get_or ws k 0 ≢ get_or vs k 0)

module _ (ws vs other : List ℕ) (i : ℕ) where
  pub joined_same : AreJoined ws vs other i → AreLeft ws vs i → bit_or (get_or ws i 0) (get_or other i 0) ≡ get_or ws i 0
      → AreJoined ws vs other (i + 1)
  joined_same d l e k h =
      ⊎_elim
      (λ (q : k ≡ i). rw q (sym e ∙ rw (l i (omega arith)) refl))
      (λ (n : k ≡ i → ⊥). d k (omega arith))
      (cases_eq k i)

  pub joined_set : AreJoined ws vs other i → AreLeft ws vs i → i < length ws
      → AreJoined (set ws i (bit_or (get_or ws i 0) (get_or other i 0))) vs other (i + 1)
  joined_set d l b k h =
      ⊎_elim
      (λ (q : k ≡ i). rw (q, get_or-set_same, l i (omega arith)) refl)
      (λ (n : k ≡ i → ⊥). get_or-set_other ws i k (bit_or (get_or ws i 0) (get_or other i 0)) 0 n ∙ d k (omega arith))
      (cases_eq k i)

  pub left_same : AreLeft ws vs i → AreLeft ws vs (i + 1)
  left_same l k h = l k (omega arith)

  pub left_set : (w : ℕ) → AreLeft ws vs i → AreLeft (set ws i w) vs (i + 1)
  left_set w l k h =
      let n : k ≢ i = λ e. omega arith in
      get_or-set_other ws i k w 0 n ∙ l k (omega arith)

  pub changed_same : IsChanged ws vs i → IsChanged ws vs (i + 1)
  changed_same p = (p.0, omega (arith, p.1), p.2)

  pub changed_set : (w : ℕ) → AreLeft ws vs i → i < length ws → w ≢ get_or ws i 0 → IsChanged (set ws i w) vs (i + 1)
  changed_set w l b n =
      (i, omega arith, λ e. n (sym (get_or-set_same ws i w 0 b) ∙ e ∙ sym (l i (omega arith))))

-- after the last word
pub joined_bits : (ws vs other : List ℕ) (i : ℕ) → AreJoined ws vs other i → length vs ≤ i → length ws ≡ length vs
    → length other ≡ length vs → (k : ℕ) → word_bit ws k ≡ (word_bit vs k || word_bit other k)
joined_bits ws vs other n d h e f k =
    ⊎_elim
    (λ (l : k / 64 < n). rw (d (k / 64) l) (in_or (get_or vs (k / 64) 0) (get_or other (k / 64) 0) (k % 64)))
    (λ (l : n ≤ k / 64). rw (
      get_or_past ws (k / 64) 0 (omega arith),
      get_or_past vs (k / 64) 0 (omega arith),
      get_or_past other (k / 64) 0
          (omega arith),
    ) (rw in_zero refl))
    (cases_lt (k / 64) n)

-- a word that is another than it was has another bit
pub changed_bits : (ws vs other : List ℕ) (i : ℕ) → AreJoined ws vs other i → ((k : ℕ) → get_or other k 0 < 2 ^ 64)
    → IsChanged ws vs i → SameBits ws vs → ⊥
changed_bits ws vs other i d f p h =
    let k = p.0 in
    let j = d k p.1 in
    p.2 (j ∙ same_or (get_or vs k 0) (get_or other k 0) (f k) (λ b l. ap (λ w. in_word w b) (sym j)
    ∙ bits_of_same ws vs h k b l))
