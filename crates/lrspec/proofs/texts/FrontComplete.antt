-- the function `front` finds the blank, comment or lexeme that stands in front
use Rattle.std.proofs.Common.{◌≡◌, ℕ, false, not, ◌&&◌, ◌==◌, ◌||◌, IsTrue, List, [], ◌∷◌, ◌++◌, refl, ap, ◌∙◌, sym, codes, append_assoc, ⊎_elim, subst}
use Rattle.std.specs.Char.{is_ascii_alphabetic}
use Rattle.std.specs.List.{list_all}
use Rattle.std.proofs.lemmas.Bool.{cond-true, or_cases, eqb-true, eq-eqb}
use Rattle.lrspec.specs.texts.Lexemes as text
use Rattle.lrspec.specs.texts.Lexemes.{Lexeme, Name, Quoted, StartWord, TokenWord, KindWord, Separator, Colon, Bar, Semicolon, is_blank, is_no_line_feed, is_name_start, is_name_byte, is_quote, may_be_quoted, IsGap, Spells, goes_on}
use Rattle.lrspec.proofs.texts.ByteSplits.{split_while}
use Rattle.lrspec.proofs.texts.ByteSplits.{split_while_is, until_close_is}
use Rattle.lrspec.proofs.texts.TextFronts.{Gap, Found, OfQuoted, beginning, name_front, quoted_front, word_front, line_front, block_front, front_by, front}

-- each of the four blanks
blank_front : (b : ℕ) (rest : List ℕ) → IsTrue (is_blank b) → front (b ∷ rest) ≡ Gap (b ∷ []) rest
blank_front b rest h = let P : ℕ → Type 0 = λ b. front (b ∷ rest) ≡ Gap (b ∷ []) rest in
    let at : (n : ℕ) → P n → IsTrue (b == n) → P b = λ n p e. subst P (sym (eqb-true b n e)) p in
    ⊎_elim (λ (e : IsTrue (b == 32 || b == 9 || b == 10)). ⊎_elim (λ (e : IsTrue (b == 32 || b == 9)). ⊎_elim (at 32 refl) (at 9 refl) (or_cases (b == 32) (b == 9) e)) (at 10 refl) (or_cases (b == 32 || b == 9) (b == 10) e)) (at 13 refl) (or_cases (b == 32 || b == 9 || b == 10) (b == 13) h)

-- a blank or a comment is what stands in front
pub front_gap : {w rest : List ℕ} → IsGap w rest → front (w ++ rest) ≡ Gap w rest
front_gap {rest = rest} (text.IsGap.blank {b = b} h) = blank_front b rest h
front_gap {rest = rest} (text.IsGap.line {c = c} h s) = ap line_front (split_while_is is_no_line_feed c rest h s)
front_gap {rest = rest} (text.IsGap.block c h) = rw (append_assoc c (42 ∷ 47 ∷ []) rest) (ap block_front (until_close_is c rest h))

-- a fact of both quotes is one of each quote
pub by_quote : (q : ℕ) (P : ℕ → Type 0) → IsTrue (is_quote q) → P 39 → P 34 → P q
by_quote q P h one two = ⊎_elim (λ (e : IsTrue (q == 39)). subst P (sym (eqb-true q 39 e)) one) (λ (e : IsTrue (q == 34)). subst P (sym (eqb-true q 34 e)) two) (or_cases (q == 39) (q == 34) h)

-- the second quote ends a quoted name
close_quote : (q b : ℕ) (w rest : List ℕ) → quoted_front q (b ∷ w, q ∷ rest) ≡ Found (Quoted (b ∷ w)) (q ∷ b ∷ w ++ q ∷ []) rest
close_quote q b w rest = cond-true (q == q) _ _ (eq-eqb q q refl)

-- a quote may not stand between its like
quote_stops : (q : ℕ) (rest : List ℕ) → goes_on (may_be_quoted q) (q ∷ rest) ≡ false
quote_stops q rest = ap (λ t. not t && not (q == 10) && not (q == 13)) (eq-eqb q q refl)

-- a quoted name, from behind its first quote
quoted_run : (q b : ℕ) (w rest : List ℕ) → IsTrue (list_all (may_be_quoted q) (b ∷ w)) → quoted_front q (split_while (may_be_quoted q) (b ∷ w ++ q ∷ [] ++ rest)) ≡ Found (Quoted (b ∷ w)) (q ∷ b ∷ w ++ q ∷ []) rest
quoted_run q b w rest all =
    ap (λ l. quoted_front q (split_while (may_be_quoted q) l)) (append_assoc (b ∷ w) (q ∷ []) rest)
    ∙ ap (quoted_front q) (split_while_is (may_be_quoted q) (b ∷ w) (q ∷ rest) all (quote_stops q rest)) ∙ close_quote q b w rest

-- a lexeme is what stands in front
pub front_lexeme : {w rest : List ℕ} {i : Lexeme} → Spells w i rest → front (w ++ rest) ≡ Found i w rest
front_lexeme {rest = rest} (text.Spells.name {b = b} {w = w} h all s) =
    ap (λ k. front_by k b (w ++ rest)) (cond-true (is_name_start b) _ _ h) ∙ ap (name_front b) (split_while_is is_name_byte w rest all s)
front_lexeme {rest = rest} (text.Spells.quoted {q = q} {b = b} {w = w} h all) =
    ap (λ k. front_by k q (b ∷ w ++ q ∷ [] ++ rest)) (by_quote q (λ q. beginning q ≡ OfQuoted) h refl refl) ∙ quoted_run q b w rest all
front_lexeme {rest = rest} (text.Spells.start s) = ap word_front (split_while_is is_ascii_alphabetic (codes "start") rest refl s)
front_lexeme {rest = rest} (text.Spells.token s) = ap word_front (split_while_is is_ascii_alphabetic (codes "token") rest refl s)
front_lexeme {rest = rest} (text.Spells.left s) = ap word_front (split_while_is is_ascii_alphabetic (codes "left") rest refl s)
front_lexeme {rest = rest} (text.Spells.right s) = ap word_front (split_while_is is_ascii_alphabetic (codes "right") rest refl s)
front_lexeme {rest = rest} (text.Spells.nonassoc s) = ap word_front (split_while_is is_ascii_alphabetic (codes "nonassoc") rest refl s)
front_lexeme {rest = rest} (text.Spells.precedence s) = ap word_front (split_while_is is_ascii_alphabetic (codes "prec") rest refl s)
front_lexeme text.Spells.separator = refl
front_lexeme text.Spells.colon = refl
front_lexeme text.Spells.bar = refl
front_lexeme text.Spells.semicolon = refl
