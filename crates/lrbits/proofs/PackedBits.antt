-- The bits of words, and the list of the first of them.
use Rattle.std.proofs.Common.{◌≡◌, ℕ, zero, suc, ◌+◌, ◌*◌, ◌/◌, ◌%◌, ◌^◌, ◌<◌, ◌≤◌, ◌≢◌, Bool, false, ◌||◌, List, length, get_or, set, refl, sym, ap, ◌∙◌, arith, add-zero, ⊎_elim, get_or-set_same}
use Rattle.std.proofs.lemmas.Bool.{cases_lt}
use Rattle.std.specs.declared.vec.Vec.{Vec}
use Rattle.std.specs.Vec.{with_items}
use Rattle.std.proofs.lemmas.List.{with_items_is, ext_get_or, get_or_past, get_or-set_other}
use Rattle.lrbits.specs.Words.{in_word, word_bit, bits_from, first_bits, Packs, AreUnusedZero, SameBits}
use Rattle.lrbits.specs.Bits.{union}
use Rattle.lrbits.proofs.Unions.{length-union, bit_of_union}
use Rattle.lrbits.proofs.WordBits.{same_word}

pub length-bits_from : (ws : List ℕ) (i n : ℕ) → length (bits_from ws i n) ≡ n
length-bits_from ws i zero = refl
length-bits_from ws i (suc n) = ap suc (length-bits_from ws (i + 1) n)

pub bit_from : (ws : List ℕ) (i n k : ℕ) → k < n → get_or (bits_from ws i n) k false ≡ word_bit ws (i + k)
bit_from ws i zero k h = absurd (omega arith)
bit_from ws i (suc n) zero h = rw (add-zero i) refl
bit_from ws i (suc n) (suc k) h =
    let e : (i + 1) + k ≡ i + suc k = omega arith in
    rw e at (bit_from ws (i + 1) n k (omega arith))

pub length-first_bits : (n : ℕ) (ws : List ℕ) → length (first_bits n ws) ≡ n
unfolding first_bits
length-first_bits n ws = length-bits_from ws 0 n

pub bit_below : (n : ℕ) (ws : List ℕ) (i : ℕ) → i < n → get_or (first_bits n ws) i false ≡ word_bit ws i
unfolding first_bits
bit_below n ws i h =
    let e : 0 + i ≡ i = omega arith in
    rw e at (bit_from ws 0 n i h)

-- where the unused bits are zero, the bits of the list are those of the words, past the end too
pub bit_packed : (n : ℕ) (ws : List ℕ) → AreUnusedZero n ws → (i : ℕ) → get_or (first_bits n ws) i false ≡ word_bit ws i
bit_packed n ws u i =
    ⊎_elim
    (λ (h : i < n). bit_below n ws i h)
    (λ (h : n ≤ i). get_or_past (first_bits n ws) i false (omega (arith, length-first_bits n ws)) ∙ sym (u i h))
    (cases_lt i n)

-- a list is that of the first bits, where it has their number and each of them
pub first_bits_are : (n : ℕ) (ws : List ℕ) (v : List Bool) → length v ≡ n
    → ((i : ℕ) → i < n → word_bit ws i ≡ get_or v i false) → first_bits n ws ≡ v
first_bits_are n ws v e h =
    ext_get_or false (first_bits n ws) v (length-first_bits n ws
    ∙ sym e) (λ i l. bit_below n ws i (omega (arith, length-first_bits n ws)) ∙ h i (omega (arith, length-first_bits n ws)))

-- the bits of one word, where all bits are the same
pub bits_of_same : (ws vs : List ℕ) → SameBits ws vs → (k i : ℕ) → i < 64
    → in_word (get_or ws k 0) i ≡ in_word (get_or vs k 0) i
bits_of_same ws vs h k i b =
    let q : (64 * k + i) / 64 ≡ k = omega arith in
    let r : (64 * k + i) % 64 ≡ i = omega arith in
    rw (q, r) at (h (64 * k + i))

-- words with the same bits are equal
pub same_words : (ws vs : List ℕ) → length ws ≡ length vs → ((k : ℕ) → get_or ws k 0 < 2 ^ 64)
    → ((k : ℕ) → get_or vs k 0 < 2 ^ 64) → SameBits ws vs → ws ≡ vs
same_words ws vs e f g h = ext_get_or 0 ws vs e
    (λ k l. same_word (get_or ws k 0) (get_or vs k 0) (f k) (g k) (bits_of_same ws vs h k))

-- lists of first bits are equal where the words have the same bits, and only there
pub same_lists : (n : ℕ) (ws vs : List ℕ) → SameBits ws vs → first_bits n ws ≡ first_bits n vs
same_lists n ws vs h = first_bits_are n ws (first_bits n vs) (length-first_bits n vs) (λ i l. h i ∙ sym (bit_below n vs i l))

pub same_from_lists : (n : ℕ) (ws vs : List ℕ) → AreUnusedZero n ws → AreUnusedZero n vs
    → first_bits n ws ≡ first_bits n vs → SameBits ws vs
same_from_lists n ws vs u t e i = sym (bit_packed n ws u i) ∙ ap (λ v. get_or v i false) e ∙ bit_packed n vs t i

-- a bit of the word that was written
pub bit_of_set : (ws : List ℕ) (k w i : ℕ) → k < length ws → i / 64 ≡ k → word_bit (set ws k w) i ≡ in_word w (i % 64)
bit_of_set ws k w i h e = rw (e, get_or-set_same) refl

pub bit_of_other : (ws : List ℕ) (k w i : ℕ) → i / 64 ≢ k → word_bit (set ws k w) i ≡ word_bit ws i
bit_of_other ws k w i n = rw (get_or-set_other ws k (i / 64) w 0 n) refl

-- the list of joined words is the union
pub joined_list : (n : ℕ) (ws vs other : List ℕ) → ((i : ℕ) → word_bit ws i ≡ (word_bit vs i || word_bit other i))
    → first_bits n ws ≡ union (first_bits n vs) (first_bits n other)
joined_list n ws vs other h =
    first_bits_are n ws (union (first_bits n vs) (first_bits n other)) (length-union (first_bits n vs) (first_bits n other)
    ∙ length-first_bits n vs) (λ i l. h i ∙ sym (both i l))
  where
    both : (i : ℕ) → i < n → get_or (union (first_bits n vs) (first_bits n other)) i false ≡ (word_bit vs i || word_bit other i)
    both i l =
        bit_of_union (first_bits n vs) (first_bits n other) (length-first_bits n other ∙ sym (length-first_bits n vs)) i
        ∙ rw (bit_below n vs i l, bit_below n other i l) refl

-- joined words have no unused bit
pub joined_packs : (n : ℕ) (ws vs other : List ℕ) → length ws ≡ length vs
    → ((i : ℕ) → word_bit ws i ≡ (word_bit vs i || word_bit other i)) → Packs n vs → AreUnusedZero n other → Packs n ws
joined_packs n ws vs other e h p u = record {
  count = e ∙ p.count;
  unused = λ i l. h i ∙ rw (p.unused i l, u i l) refl;
}

-- how long the list is
pub view_length : (n : ℕ) (ws : List ℕ) (v : List Bool) → first_bits n ws ≡ v → length v ≡ n
view_length n ws v e = ap length (sym e) ∙ length-first_bits n ws

-- vectors of one length have as many words
pub same_count : (n m : ℕ) (ws vs : List ℕ) → Packs n ws → Packs m vs → m ≡ n → length vs ≡ length ws
same_count n m ws vs p q e = q.count ∙ ap (λ k. (k + 63) / 64) e ∙ sym p.count

-- what a vector has after a call that wrote as many words
pub same_items : {A : Type 0} (v : Vec ℕ A) (ws : List ℕ) → length ws ≡ length v.items → (with_items v ws).items ≡ ws
same_items v ws e = with_items_is v ws (omega (arith, v.ok.0))

-- lists of one length are those of as many bits
pub one_length : (n m : ℕ) (ws vs : List ℕ) (v w : List Bool) → first_bits n ws ≡ v → first_bits m vs ≡ w
    → length w ≡ length v → m ≡ n
one_length n m ws vs v w a b e = omega (arith, view_length n ws v a, view_length m vs w b)

-- each bit of the list, past its end too
pub view_bit : (n : ℕ) (ws : List ℕ) (v : List Bool) → first_bits n ws ≡ v → AreUnusedZero n ws → (i : ℕ)
    → get_or v i false ≡ word_bit ws i
view_bit n ws v e u i = ap (λ x. get_or x i false) (sym e) ∙ bit_packed n ws u i
