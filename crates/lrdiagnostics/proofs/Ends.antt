-- bytes end before just one column
use Rattle.std.proofs.Common.{◌≡◌, ℕ, zero, suc, ◌+◌, ◌<◌, ◌≤◌, Bool, true, false, List, [], ◌∷◌, length, take, drop, sym, ap, subst, arith, ◌⊎◌, inl, inr, length-drop, refl}
use Rattle.std.proofs.Math.Path.{ap₂}
use Rattle.std.proofs.Math.Seq.{take-append_seam}
use Rattle.std.proofs.lemmas.List.{take-append-drop}
use Rattle.std.proofs.lemmas.Bool.{cases_lt}
use Rattle.std.proofs.lemmas.Str.{IsUtf8-encode, IsUtf8-from_is_utf8, is_utf8-from_IsUtf8, length-encode, len_utf8_bounds, encode_same}
use Rattle.std.specs.List.{fold}
use Rattle.std.specs.Str.{IsUtf8, is_utf8, StartsWithNoChar, chars}
use Rattle.std.specs.Prelude.{encode_utf8}
use Rattle.lrdiagnostics.specs.Positions.{column_after, counted, EndsBefore}
use Rattle.lrdiagnostics.specs.Positions.EndsBefore.{nothing, character, stray}
use Rattle.lrdiagnostics.proofs.CountedTexts.{no_char_in_none, behind_text}

-- the same bytes from the same column on do not end before two columns
pub one_end : {xs ys : List ℕ} {from other counted_ behind : ℕ} → EndsBefore xs from counted_ → EndsBefore ys other behind → xs ≡ ys → from ≡ other → counted_ ≡ behind
one_end nothing nothing e f = f
one_end nothing (character c s d) e f = absurd (no_char_in_none c _ s e)
one_end nothing (stray none d) e f = cc
one_end (character c s d) nothing e f = absurd (no_char_in_none c _ s (sym e))
one_end (character c s d) (character c' s' d') e f =
    let parts = encode_same c c' _ _ e in
    one_end d d' parts.1 (ap₂ column_after f parts.0)
one_end (character c s d) (stray none d') e f = absurd (none c _ s (sym e))
one_end (stray none d) nothing e f = cc
one_end (stray none d) (character c s d') e f = absurd (none c _ s e)
one_end (stray none d) (stray none' d') e f = one_end d d' (ap (drop 1) e) (ap (λ column. counted (column + 1)) f)

-- a front that is text, of some bytes; and none, of up to so many bytes
abbrev HasFront : List ℕ → Type 0
HasFront bs = (k : ℕ) × (0 < k) × IsUtf8 (take k bs)

abbrev HasNoFront : List ℕ → ℕ → Type 0
HasNoFront bs n = (k : ℕ) → 0 < k → k ≤ n → ¬ (IsUtf8 (take k bs))

longer : (bs : List ℕ) (n : ℕ) (b : Bool) → is_utf8 (take (suc n) bs) ≡ b → HasFront bs ⊎ HasNoFront bs n → HasFront bs ⊎ HasNoFront bs (suc n)
longer bs n true is shorter = inl (suc n, omega arith, IsUtf8-from_is_utf8 (take (suc n) bs) is)
longer bs n false is (inl some) = inl some
longer bs n false is (inr none) =
    inr (λ k some most u. elim (cases_lt n k) [
      | inl above ↦
          let same : k ≡ suc n = omega arith in
          let test : is_utf8 (take (suc n) bs) ≡ true = is_utf8-from_IsUtf8 (take (suc n) bs) (subst (λ m. IsUtf8 (take m bs)) same u) in
          cc
      | inr below ↦ none k some below u
    ])

fronts : (bs : List ℕ) (n : ℕ) → HasFront bs ⊎ HasNoFront bs n
fronts bs zero = inr (λ k some most u. omega arith)
fronts bs (suc n) = longer bs n (is_utf8 (take (suc n) bs)) refl (fronts bs n)

-- no character begins where no front of up to four bytes is text
none_begins : (bs : List ℕ) → HasNoFront bs 4 → StartsWithNoChar bs
none_begins bs none c rest s e =
    let long = length-encode c in
    let is : take (length (encode_utf8 c)) bs ≡ encode_utf8 c = subst (λ all. take (length (encode_utf8 c)) all ≡ encode_utf8 c) (sym e) (take-append_seam (encode_utf8 c) rest) in
    none (length (encode_utf8 c)) (omega (arith, long, (len_utf8_bounds c).0)) (omega (arith, long, (len_utf8_bounds c).1)) (subst IsUtf8 (sym is) (IsUtf8-encode c s))

some_end_of : (n : ℕ) (bs : List ℕ) (column : ℕ) → length bs ≤ n → (behind : ℕ) × EndsBefore bs column behind
some_end_of n [] column fits = (column, nothing)
some_end_of zero (b ∷ bs) column fits = absurd (omega arith)
some_end_of (suc n) (b ∷ bs) column fits = elim (fronts (b ∷ bs) 4) [
  | inl some ↦
      let k = some.0 in
      let front = take k (b ∷ bs) in
      let others = drop k (b ∷ bs) in
      let rest = some_end_of n others (fold column_after column (chars front)) (omega (arith, length-drop k (b ∷ bs), some.1)) in
      (rest.0, subst (λ all. EndsBefore all column rest.0) (take-append-drop k (b ∷ bs)) (behind_text front others column rest.0 some.2 rest.1))
  | inr none ↦
      let rest = some_end_of n bs (counted (column + 1)) (omega arith) in
      (rest.0, stray (none_begins (b ∷ bs) none) rest.1)
]

-- bytes end before some column
pub some_end : (bs : List ℕ) (column : ℕ) → (behind : ℕ) × EndsBefore bs column behind
some_end bs column = some_end_of (length bs) bs column (omega arith)
