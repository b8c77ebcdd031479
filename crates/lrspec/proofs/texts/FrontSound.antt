-- what the function `front` finds does stand in front, and where it finds nothing there is a misfit
use Rattle.std.proofs.Common.{◌≡◌, ◌≢◌, ℕ, false, ◌==◌, IsTrue, List, [], ◌∷◌, ◌++◌, Option, None, Some, refl, ap, ◌∙◌, sym, codes, bytes_eq, append_assoc, subst}
use Rattle.std.specs.Char.{is_ascii_alphabetic}
use Rattle.std.proofs.lemmas.Bool.{cond_both, eqb-true}
use Rattle.std.proofs.lemmas.Slice.Eq.{bytes_eq-Decides}
use Rattle.lrspec.specs.grammars.Grammar.{Left, Right, Nonassoc}
use Rattle.lrspec.specs.texts.Lexemes as text
use Rattle.lrspec.specs.texts.Lexemes.{Lexeme, Name, Quoted, StartWord, TokenWord, KindWord, PrecedenceWord, Separator, Colon, Bar, Semicolon, is_blank, is_no_line_feed, is_name_start, is_name_byte, is_quote, may_be_quoted, IsGap, Spells, IsMisfit, goes_on}
use Rattle.lrspec.proofs.texts.ByteSplits.{IsSplit, split_while_splits, IsCutAtClose, until_close_closes}
use Rattle.lrspec.proofs.texts.TextFronts.{Front, Gap, Found, Unfit, Beginning, OfName, OfQuoted, OfWord, OfComment, OfBlank, OfMark, OfNothing, beginning, name_front, quoted_front, word_lexeme, word_found, word_front, line_front, block_front, comment_front, front_by, front}
use Rattle.lrspec.proofs.texts.FrontComplete.{front_gap, front_lexeme}

-- what a front says of its text
abbrev pub IsFront : List ℕ → Front → Type 0
IsFront bs (Gap w rest) = (bs ≡ w ++ rest) × IsGap w rest
IsFront bs (Found i w rest) = (bs ≡ w ++ rest) × Spells w i rest
IsFront bs Unfit = Unit {0}

-- what a beginning says of its byte
abbrev BeginsAs : ℕ → Beginning → Type 0
BeginsAs b OfName = IsTrue (is_name_start b)
BeginsAs b OfQuoted = IsTrue (is_quote b)
BeginsAs b OfWord = b ≡ 37
BeginsAs b OfComment = b ≡ 47
BeginsAs b OfBlank = IsTrue (is_blank b)
BeginsAs b (OfMark i) = (rest : List ℕ) → Spells (b ∷ []) i rest
BeginsAs b OfNothing = Unit {0}

-- a byte that is a mark
mark : (b n : ℕ) (i : Lexeme) → ((rest : List ℕ) → Spells (n ∷ []) i rest) → IsTrue (b == n) → (rest : List ℕ) → Spells (b ∷ []) i rest
mark b n i f e rest = subst (λ c. Spells (c ∷ []) i rest) (sym (eqb-true b n e)) (f rest)

-- what may begin with a byte is what the byte is
begins_as : (b : ℕ) → BeginsAs b (beginning b)
begins_as b =
    cond_both (is_name_start b) _ _ (BeginsAs b) (λ h. h) (λ h.
    cond_both (is_quote b) _ _ (BeginsAs b) (λ h. h) (λ h.
    cond_both (b == 37) _ _ (BeginsAs b) (eqb-true b 37) (λ h.
    cond_both (b == 47) _ _ (BeginsAs b) (eqb-true b 47) (λ h.
    cond_both (is_blank b) _ _ (BeginsAs b) (λ h. h) (λ h.
    cond_both (b == 58) _ _ (BeginsAs b) (mark b 58 Colon (λ r. text.Spells.colon)) (λ h.
    cond_both (b == 124) _ _ (BeginsAs b) (mark b 124 Bar (λ r. text.Spells.bar)) (λ h.
    cond_both (b == 59) _ _ (BeginsAs b) (mark b 59 Semicolon (λ r. text.Spells.semicolon)) (λ h. tt))))))))

-- a name in front
name_is : (b : ℕ) (bs : List ℕ) (s : List ℕ × List ℕ) → IsTrue (is_name_start b) → IsSplit is_name_byte bs s → IsFront (b ∷ bs) (name_front b s)
name_is b bs (w, rest) h s = (ap (λ l. b ∷ l) s.whole, text.Spells.name h s.all s.stops)

-- a quoted name in front
quoted_is : (q : ℕ) (bs : List ℕ) (s : List ℕ × List ℕ) → IsTrue (is_quote q) → IsSplit (may_be_quoted q) bs s → IsFront (q ∷ bs) (quoted_front q s)
quoted_is q bs ([], rest) h s = tt
quoted_is q bs (b ∷ w, []) h s = tt
quoted_is q bs (b ∷ w, c ∷ rest) h s = cond_both (c == q) (Found (Quoted (b ∷ w)) (q ∷ b ∷ w ++ q ∷ []) rest) Unfit (IsFront (q ∷ bs))
    (λ e. (ap (λ l. q ∷ l) (s.whole ∙ ap (λ c. b ∷ w ++ c ∷ rest) (eqb-true c q e) ∙ sym (append_assoc (b ∷ w) (q ∷ []) rest)), text.Spells.quoted h s.all))
    (λ e. tt)

-- what the table of words answers
abbrev IsWord : List ℕ → Option Lexeme → Type 0
IsWord w None = Unit {0}
IsWord w (Some i) = (rest : List ℕ) → goes_on is_ascii_alphabetic rest ≡ false → Spells (37 ∷ w) i rest

-- one line of the table
word : (w v : List ℕ) (i : Lexeme) → ((rest : List ℕ) → goes_on is_ascii_alphabetic rest ≡ false → Spells (37 ∷ v) i rest) → IsTrue (bytes_eq w v) → IsWord w (Some i)
word w v i f e = λ rest s. subst (λ u. Spells (37 ∷ u) i rest) (sym ((bytes_eq-Decides w v).0 e)) (f rest s)

-- the table of words is that of the lexemes
word_lexeme_is : (w : List ℕ) → IsWord w (word_lexeme w)
word_lexeme_is w =
    cond_both (bytes_eq w (codes "start")) _ _ (IsWord w) (word w (codes "start") StartWord (λ r s. text.Spells.start s)) (λ h.
    cond_both (bytes_eq w (codes "token")) _ _ (IsWord w) (word w (codes "token") TokenWord (λ r s. text.Spells.token s)) (λ h.
    cond_both (bytes_eq w (codes "left")) _ _ (IsWord w) (word w (codes "left") (KindWord Left) (λ r s. text.Spells.left s)) (λ h.
    cond_both (bytes_eq w (codes "right")) _ _ (IsWord w) (word w (codes "right") (KindWord Right) (λ r s. text.Spells.right s)) (λ h.
    cond_both (bytes_eq w (codes "nonassoc")) _ _ (IsWord w) (word w (codes "nonassoc") (KindWord Nonassoc) (λ r s. text.Spells.nonassoc s)) (λ h.
    cond_both (bytes_eq w (codes "prec")) _ _ (IsWord w) (word w (codes "prec") PrecedenceWord (λ r s. text.Spells.precedence s)) (λ h. tt))))))

-- a word in front, by the table
word_found_is : (w rest : List ℕ) (o : Option Lexeme) → goes_on is_ascii_alphabetic rest ≡ false → IsWord w o → IsFront (37 ∷ w ++ rest) (word_found w rest o)
word_found_is w rest None s h = tt
word_found_is w rest (Some i) s h = (refl, h rest s)

-- a word or `%%` in front
word_is : (bs : List ℕ) (s : List ℕ × List ℕ) → IsSplit is_ascii_alphabetic bs s → IsFront (37 ∷ bs) (word_front s)
word_is bs ([], []) s = tt
word_is bs ([], c ∷ rest) s = cond_both (c == 37) (Found Separator (codes "%%") rest) Unfit (IsFront (37 ∷ bs))
    (λ e. (ap (λ l. 37 ∷ l) (s.whole ∙ ap (λ c. c ∷ rest) (eqb-true c 37 e)), text.Spells.separator)) (λ e. tt)
word_is bs (b ∷ w, rest) s = rw s.whole (word_found_is (b ∷ w) rest (word_lexeme (b ∷ w)) s.stops (word_lexeme_is (b ∷ w)))

-- a line comment in front
line_is : (bs : List ℕ) (s : List ℕ × List ℕ) → IsSplit is_no_line_feed bs s → IsFront (47 ∷ 47 ∷ bs) (line_front s)
line_is bs (c, rest) s = (ap (λ l. 47 ∷ 47 ∷ l) s.whole, text.IsGap.line s.all s.stops)

-- a comment in two marks in front
block_is : (bs : List ℕ) (o : Option (List ℕ × List ℕ)) → IsCutAtClose bs o → IsFront (47 ∷ 42 ∷ bs) (block_front o)
block_is bs None h = tt
block_is bs (Some (c, rest)) (e, h) = (ap (λ l. 47 ∷ 42 ∷ l) (e ∙ sym (append_assoc c (42 ∷ 47 ∷ []) rest)), text.IsGap.block c h)

-- a comment in front
comment_is : (bs : List ℕ) → IsFront (47 ∷ bs) (comment_front bs)
comment_is [] = tt
comment_is (c ∷ bs) = cond_both (c == 47) _ _ (IsFront (47 ∷ c ∷ bs))
    (λ e. rw (eqb-true c 47 e) (line_is bs _ (split_while_splits is_no_line_feed bs)))
    (λ n. cond_both (c == 42) _ _ (IsFront (47 ∷ c ∷ bs)) (λ e. rw (eqb-true c 42 e) (block_is bs _ (until_close_closes bs))) (λ m. tt))

-- what stands in front, by what begins there
front_by_is : (k : Beginning) (b : ℕ) (bs : List ℕ) → BeginsAs b k → IsFront (b ∷ bs) (front_by k b bs)
front_by_is OfName b bs h = name_is b bs _ h (split_while_splits is_name_byte bs)
front_by_is OfQuoted b bs h = quoted_is b bs _ h (split_while_splits (may_be_quoted b) bs)
front_by_is OfWord b bs h = rw h (word_is bs _ (split_while_splits is_ascii_alphabetic bs))
front_by_is OfComment b bs h = rw h (comment_is bs)
front_by_is OfBlank b bs h = (refl, text.IsGap.blank h)
front_by_is (OfMark i) b bs h = (refl, h bs)
front_by_is OfNothing b bs h = tt

-- what stands in front of a text does so
pub front_is : (bs : List ℕ) → IsFront bs (front bs)
front_is [] = tt
front_is (b ∷ bs) = front_by_is (beginning b) b bs (begins_as b)

-- where nothing fits, there is a misfit
pub unfit_is : (bs : List ℕ) → bs ≢ [] → front bs ≡ Unfit → IsMisfit bs
unfit_is bs some h = record {
  some = some;
  no_gap = λ w rest e g. let same : front bs ≡ Gap w rest = rw e (front_gap g) in cc;
  no_lexeme = λ w rest i e s. let same : front bs ≡ Found i w rest = rw e (front_lexeme s) in cc;
}
