-- A place that is set in both of two lists of words.
use Rattle.std.proofs.Common.{◌≡◌, ℕ, ◌+◌, ◌*◌, ◌/◌, ◌%◌, ◌^◌, ◌<◌, ◌≤◌, ◌≢◌, true, false, List, length, get_or, sym, ◌∙◌, arith, w64, IsTrue, ⊎_elim}
use Rattle.std.specs.Int.{trailing_zeros}
use Rattle.std.specs.Int.RustNames.{bit_and}
use Rattle.std.proofs.lemmas.Bool.{and_parts, and_from, cases_lt}
use Rattle.std.proofs.lemmas.List.{get_or_past}
use Rattle.lrbits.specs.Words.{in_word, word_bit}
use Rattle.lrbits.proofs.WordBits.{in_and, in_zero, lowest}

-- two words that share a bit
pub shared_place : (ws vs : List ℕ) (i : ℕ) → bit_and (get_or ws i 0) (get_or vs i 0) ≢ 0
    → bit_and (get_or ws i 0) (get_or vs i 0) < 2 ^ 64 → (k : ℕ) × IsTrue (word_bit ws k) × IsTrue (word_bit vs k)
shared_place ws vs i n h =
    let b = bit_and (get_or ws i 0) (get_or vs i 0) in
    let l = lowest b (omega arith) h in
    let t = trailing_zeros w64 b in
    let q : (64 * i + t) / 64 ≡ i = omega (arith, l.0) in
    let r : (64 * i + t) % 64 ≡ t = omega (arith, l.0) in
    let p = and_parts (in_word (get_or ws i 0) t) (in_word (get_or vs i 0) t)
    (sym (in_and (get_or ws i 0) (get_or vs i 0) t) ∙ l.1) in
    (64 * i + t, rw (q, r) p.0, rw (q, r) p.1)

-- no words that share one
pub none_shared : (ws vs : List ℕ) (n : ℕ) → ((k : ℕ) → k < n → bit_and (get_or ws k 0) (get_or vs k 0) ≡ 0)
    → length ws ≤ n → (k : ℕ) → IsTrue (word_bit ws k) → IsTrue (word_bit vs k) → ⊥
none_shared ws vs n z h k s t =
    ⊎_elim
    (λ (l : k / 64 < n).
    let b : in_word (bit_and (get_or ws (k / 64) 0) (get_or vs (k / 64) 0)) (k % 64) ≡ true = in_and (get_or ws (k / 64) 0)
    (get_or vs (k / 64) 0) (k % 64) ∙ and_from (word_bit ws k) (word_bit vs k) s t in
    let f : in_word (bit_and (get_or ws (k / 64) 0) (get_or vs (k / 64) 0)) (k % 64) ≡ false = rw (z (k / 64) l)
    (in_zero (k % 64)) in
    cc)
    (λ (l : n ≤ k / 64).
    let p : get_or ws (k / 64) 0 ≡ 0 = get_or_past ws (k / 64) 0 (omega arith) in
    let f : word_bit ws k ≡ false = rw p (in_zero (k % 64)) in
    cc)
    (cases_lt (k / 64) n)
