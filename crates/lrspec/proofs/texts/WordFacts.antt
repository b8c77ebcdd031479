-- words of a line: blanks in front are none of it, and the first word ends at the next blank
use Rattle.std.proofs.Common.{◌≡◌, ℕ, ◌+◌, ◌<◌, ◌≤◌, ◌∙◌, sym, ap, refl, arith, length, add-zero, suc, zero, get_or, List, [], ◌∷◌, ◌++◌, true, false, not, Bool, cond, take, drop, ⊎_elim}
use Rattle.std.specs.Prelude.{Option, None, Some, unwrap_or}
use Rattle.std.specs.List.{All, slice_split, position, position_or_len}
use Rattle.std.proofs.lemmas.Bool.{cases_lt, lt-ltb, not-false, not-true}
use Rattle.std.proofs.lemmas.List.{drop_more, take_all, take-append-drop, length-take, length-drop, drop_all, get_or-take, get_or-drop, get_or_default}
use Rattle.std.proofs.lemmas.List.Quantifiers.{position-Some}
use Rattle.std.proofs.lemmas.List.Sums.{fails_before_first}
use Rattle.std.proofs.lemmas.List.Splits.{slice_split_at, slice_split_none, slice_split-cons_yes}
use Rattle.lrspec.specs.texts.Lines.{nonempty, is_blank, words}

-- a blank in front is of no word
words-blank : (b : ℕ) (xs : List ℕ) → is_blank b ≡ true → words (b ∷ xs) ≡ words xs
words-blank b xs e = ap nonempty (slice_split-cons_yes is_blank b xs e)

-- nor are more of them
words-blanks : (n : ℕ) (xs : List ℕ) → n ≤ length xs
    → ((k : ℕ) → k < n → is_blank (get_or xs k 0) ≡ true) → words xs ≡ words (drop n xs)
words-blanks zero xs l h = refl
words-blanks (suc n) [] l h = absurd (omega arith)
words-blanks (suc n) (x ∷ xs) l h =
    words-blank x xs (h 0 (omega arith))
    ∙ words-blanks n xs (omega arith) (λ k m. h (suc k) (omega arith))

nonempty-cons : (x : List ℕ) (xs : List (List ℕ)) → 0 < length x → nonempty (x ∷ xs) ≡ x ∷ nonempty xs
nonempty-cons [] xs l = absurd (omega arith)
nonempty-cons (b ∷ x) xs l = refl

-- bytes in front of a blank that are none themselves are a word
words-word : (n : ℕ) (xs : List ℕ) → 0 < n → n < length xs
    → ((k : ℕ) → k < n → is_blank (get_or xs k 0) ≡ false) → is_blank (get_or xs n 0) ≡ true → words xs ≡ take n xs ∷ words (drop n xs)
words-word n xs some l before blank =
    let later = drop (n + 1) xs in
    let from_blank : drop n xs ≡ get_or xs n 0 ∷ later = drop_more xs n 0 l in
    let none : All (λ b. is_blank b ≡ false) (take n xs) =
    λ k d m.
    let k_below : k < n = omega (arith, length-take n xs) in
    let k_in : k < length xs = omega arith in
    ap is_blank (get_or-take n xs k d k_below ∙ get_or_default xs k d 0 k_in)
    ∙ before k k_below in
    let whole : xs ≡ take n xs ++ get_or xs n 0 ∷ later =
    sym (take-append-drop n xs) ∙ ap (λ l. take n xs ++ l) from_blank in
    ap words whole
    ∙ ap nonempty (slice_split_at is_blank (take n xs) (get_or xs n 0) later none blank)
    ∙ nonempty-cons (take n xs) (slice_split is_blank later) (simp length-take (omega arith))
    ∙ ap (λ ws. take n xs ∷ ws) (sym (ap words from_blank ∙ words-blank (get_or xs n 0) later blank))

-- some bytes that are no blanks are one word
words-one : (xs : List ℕ) → 0 < length xs → All (λ b. is_blank b ≡ false) xs → words xs ≡ xs ∷ []
words-one xs some none = ap nonempty (slice_split_none is_blank xs none) ∙ nonempty-cons xs [] some

-- ---- as places are found

-- where no place is found no byte passes
fails_everywhere : (p : ℕ → Bool) (xs : List ℕ) → position p xs ≡ None
    → (k d : ℕ) → k < length xs → p (get_or xs k d) ≡ false
fails_everywhere p xs e k d l =
    let past : length xs ≤ position_or_len p xs =
    ⊎_elim
    (λ (low : position_or_len p xs < length xs).
    absurd
    (none_some
    (sym (ap (λ t. cond t (Some (position_or_len p xs)) None)
    (lt-ltb (position_or_len p xs) (length xs) low)) ∙ e)))
    (λ (high : length xs ≤ position_or_len p xs). high)
    (cases_lt (position_or_len p xs) (length xs)) in
    fails_before_first p xs k d (omega arith)
  where
    none_some : {n : ℕ} → Some n ≡ None → ⊥
    none_some f = cc

-- without a byte that is no blank there is no word
pub no_words : (line : List ℕ) → position (λ b. not (is_blank b)) line ≡ None → words line ≡ []
no_words line e =
    words-blanks (length line) line (omega arith)
    (λ k l. not-false _ (fails_everywhere (λ b. not (is_blank b)) line e k 0 l))
    ∙ ap words (drop_all (length line) line (omega arith))

-- the first byte that is no blank begins the first word
words_from : (line : List ℕ) (start : ℕ) → position (λ b. not (is_blank b)) line ≡ Some start
    → (start ≤ length line) × (words line ≡ words (drop start line))
words_from line start e =
    let at = position-Some (λ b. not (is_blank b)) line start 0 e in
    let within : start ≤ length line = omega (arith, at.0) in
    (within, words-blanks start line within (λ k l. not-false _ (at.2 k l)))

-- a byte that is a blank is not the first, where this is none
behind_first : (n : ℕ) (xs : List ℕ) → is_blank (get_or xs 0 0) ≡ false
    → is_blank (get_or xs n 0) ≡ true → 0 < n
behind_first zero xs e f = absurd (true_not_false (sym f ∙ e))
  where
    true_not_false : true ≡ false → ⊥
    true_not_false h = cc
behind_first (suc n) xs e f = omega arith

-- it ends before the next blank
words_at_blank : (line : List ℕ) (start end : ℕ) → position (λ b. not (is_blank b)) line ≡ Some start
    → position is_blank (drop start line) ≡ Some end
    → words line ≡ take end (drop start line) ∷ words (drop end (drop start line))
words_at_blank line start end e f =
    let at = position-Some (λ b. not (is_blank b)) line start 0 e in
    let stop = position-Some is_blank (drop start line) end 0 f in
    let first : is_blank (get_or (drop start line) 0 0) ≡ false =
    ap is_blank (get_or-drop start line 0 0 ∙ ap (λ k. get_or line k 0) (add-zero start))
    ∙ not-true _ at.1 in
    (words_from line start e).1
    ∙ words-word end (drop start line) (behind_first end (drop start line) first stop.1)
    stop.0 stop.2 stop.1

-- or at the end of the line
words_at_end : (line : List ℕ) (start : ℕ) → position (λ b. not (is_blank b)) line ≡ Some start
    → position is_blank (drop start line) ≡ None → words line ≡ drop start line ∷ []
words_at_end line start e f =
    let at = position-Some (λ b. not (is_blank b)) line start 0 e in
    (words_from line start e).1
    ∙ words-one (drop start line) (omega (arith, at.0, length-drop start line))
    (fails_everywhere is_blank (drop start line) f)

words_at_end_or_blank : (line : List ℕ) (start : ℕ) (end : Option ℕ)
    → position (λ b. not (is_blank b)) line ≡ Some start → position is_blank (drop start line) ≡ end
    → words line ≡ take (unwrap_or end (length (drop start line))) (drop start line)
    ∷ words (drop (unwrap_or end (length (drop start line))) (drop start line))
words_at_end_or_blank line start None e f =
    let n = length (drop start line) in
    words_at_end line start e f
    ∙ ap (λ w. w ∷ []) (sym (take_all n (drop start line) (omega arith)))
    ∙ ap (λ l. take n (drop start line) ∷ words l) (sym (drop_all n (drop start line) (omega arith)))
words_at_end_or_blank line start (Some end) e f = words_at_blank line start end e f

-- the first word is what stands from the first byte that is no blank up to a blank or the end
pub first_word_is : (line : List ℕ) (start : ℕ) (from : List ℕ) (end : Option ℕ) (n : ℕ)
    (word behind : List ℕ)
    → position (λ b. not (is_blank b)) line ≡ Some start → from ≡ drop start line
    → end ≡ position is_blank from → n ≡ unwrap_or end (length from)
    → word ≡ take n from → behind ≡ drop n from → words line ≡ word ∷ words behind
first_word_is line start from end n word behind e from_is end_is n_is word_is behind_is =
    words_at_end_or_blank line start end e (ap (position is_blank) (sym from_is) ∙ sym end_is)
    ∙ ap (λ l. take (unwrap_or end (length l)) l ∷ words (drop (unwrap_or end (length l)) l))
    (sym from_is)
    ∙ ap (λ k. take k from ∷ words (drop k from)) (sym n_is)
    ∙ ap (λ w. w ∷ words (drop n from)) (sym word_is) ∙ ap (λ l. word ∷ words l) (sym behind_is)
