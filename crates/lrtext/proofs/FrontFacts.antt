-- what stands in front of a text, as the code finds it: a name, a word, a comment, or nothing
use Rattle.std.proofs.Common.{◌≡◌, ◌≢◌, ℕ, false, ◌==◌, IsTrue, List, [], ◌∷◌, ◌++◌, None, Some, take, drop, refl, ap, ◌∙◌, sym, codes, bytes_eq, append_assoc, subst, true, length, slice_get, false-eqb, arith}
use Rattle.std.specs.Char.{is_ascii_alphabetic, is_ascii_digit}
use Rattle.std.specs.List.{list_all}
use Rattle.std.specs.Str.Pattern.{FindsText}
use Rattle.std.proofs.lemmas.Bool.{and_parts, or_parts, cond-false}
use Rattle.std.proofs.lemmas.Bool.Decides.{nat_tests}
use Rattle.std.proofs.lemmas.Slice.Eq.{bytes_eq-Decides}
use Rattle.lrspec.specs.texts.Lexemes as lexemes
use Rattle.lrspec.specs.texts.Lexemes.{Lexeme, Name, Quoted, Separator, is_blank, is_no_line_feed, is_name_start, is_name_byte, is_quote, may_be_quoted, goes_on, Spells, IsMisfit}
use Rattle.lrspec.proofs.texts.ByteSplits.{split_while, split_while_is, IsCutAtClose, until_close_closes}
use Rattle.lrspec.proofs.texts.TextFronts.{Unfit, OfQuoted, OfNothing, beginning, quoted_front, word_lexeme, word_found, word_front, front_by, front}
use Rattle.lrspec.proofs.texts.FrontComplete.{by_quote}
use Rattle.lrspec.proofs.texts.FrontSound.{unfit_is}
use Rattle.lrtext.specs.Runs.{is_byte}
use Rattle.lrtext.specs.declared.lexemes.Front as found
use Rattle.lrtext.specs.NextLexemes.{BeginsWithGap, BeginsWith, IsFront}
use Rattle.lrtext.proofs.FirstClose.{closes_at, never_closes}

-- ---- names

-- a name is in front where its first byte is
pub name_in_front : (text name behind rest : List ℕ) (c : ℕ) → text ≡ c ∷ rest → IsTrue (is_name_start c) → text ≡ name ++ behind → IsTrue (list_all is_name_byte name) → goes_on is_name_byte behind ≡ false → BeginsWith text (Name name) behind
name_in_front text [] behind rest c cut starts whole all stops =
    let more : goes_on is_name_byte (c ∷ rest) ≡ false = subst (λ bs. goes_on is_name_byte bs ≡ false) (sym whole ∙ cut) stops in
    let none = (or_parts (is_name_start c) (is_ascii_digit c) more).0 in
    absurd (cc)
name_in_front text (b ∷ name) behind rest c cut starts whole all stops =
    let same : c ≡ b = cc in
    let first : IsTrue (is_name_start b) = subst (λ c. IsTrue (is_name_start c)) same starts in
    record { word = b ∷ name; whole = whole; spells = lexemes.Spells.name first (and_parts (is_name_byte b) (list_all is_name_byte name) all).1 stops }

-- ---- quoted names

-- a list of some bytes
pub some_bytes : (w : List ℕ) → (length w == 0) ≡ false → w ≢ []
some_bytes w h e = false-eqb (length w) 0 (sym h) (ap length e)

-- a list of no bytes
no_bytes : (w : List ℕ) → (length w == 0) ≡ true → w ≡ []
no_bytes [] h = refl
no_bytes (b ∷ w) h = let none : length (b ∷ w) ≡ 0 = grind (arith, nat_tests) in absurd (omega arith)

-- a name between two quotes is in front
pub quoted_in_front : (q : ℕ) (text name closed behind : List ℕ) → IsTrue (is_quote q) → name ≢ [] → text ≡ name ++ closed → IsTrue (list_all (may_be_quoted q) name) → closed ≡ q ∷ behind → BeginsWith (q ∷ text) (Quoted name) behind
quoted_in_front q text [] closed behind h some whole all e = absurd (some refl)
quoted_in_front q text (b ∷ w) closed behind h some whole all e = record {
  word = q ∷ b ∷ w ++ q ∷ [];
  whole = ap (λ l. q ∷ l) (whole ∙ ap (λ l. b ∷ w ++ l) e ∙ sym (append_assoc (b ∷ w) (q ∷ []) behind));
  spells = lexemes.Spells.quoted h all;
}

module _ (q : ℕ) (text name closed : List ℕ) (h : IsTrue (is_quote q)) (whole : text ≡ name ++ closed) (all : IsTrue (list_all (may_be_quoted q) name)) (stops : goes_on (may_be_quoted q) closed ≡ false) where
  -- what is in front of a text that begins with a quote
  behind_quote : front (q ∷ text) ≡ quoted_front q (name, closed)
  behind_quote =
      ap (λ k. front_by k q text) (by_quote q (λ q. beginning q ≡ OfQuoted) h refl refl)
      ∙ ap (λ l. quoted_front q (split_while (may_be_quoted q) l)) whole
      ∙ ap (quoted_front q) (split_while_is (may_be_quoted q) name closed all stops)

  -- nothing stands between the quotes
  pub empty_quote_unfit : (length name == 0) ≡ true → q ∷ text ≢ [] → IsMisfit (q ∷ text)
  empty_quote_unfit e some = unfit_is (q ∷ text) some (behind_quote ∙ ap (λ w. quoted_front q (w, closed)) (no_bytes name e))

  -- the second quote is missing
  pub open_quote_unfit : goes_on (is_byte q) closed ≡ false → q ∷ text ≢ [] → IsMisfit (q ∷ text)
  open_quote_unfit e some = unfit_is (q ∷ text) some (behind_quote ∙ open_quote name closed e)
    where
      open_quote : (w bs : List ℕ) → goes_on (is_byte q) bs ≡ false → quoted_front q (w, bs) ≡ Unfit
      open_quote [] bs e = refl
      open_quote (b ∷ w) [] e = refl
      open_quote (b ∷ w) (c ∷ bs) e = cond-false (c == q) _ _ e

-- ---- words

-- the word is another one
other_word : (w v : List ℕ) → w ≢ v → bytes_eq w v ≡ false
other_word w v differs = elim (bytes_eq w v) as (λ t. bytes_eq w v ≡ t → t ≡ false) [ true ↦ λ h. absurd (differs ((bytes_eq-Decides w v).0 h)) | false ↦ λ h. refl ] refl

-- a word that is none of the six is not in the table
pub not_in_table : (w : List ℕ) → w ≢ codes "start" → w ≢ codes "token" → w ≢ codes "left" → w ≢ codes "right" → w ≢ codes "nonassoc" → w ≢ codes "prec" → word_lexeme w ≡ None
not_in_table w start token left right nonassoc prec =
    cond-false (bytes_eq w (codes "start")) _ _ (other_word w _ start)
    ∙ cond-false (bytes_eq w (codes "token")) _ _ (other_word w _ token)
    ∙ cond-false (bytes_eq w (codes "left")) _ _ (other_word w _ left)
    ∙ cond-false (bytes_eq w (codes "right")) _ _ (other_word w _ right)
    ∙ cond-false (bytes_eq w (codes "nonassoc")) _ _ (other_word w _ nonassoc)
    ∙ cond-false (bytes_eq w (codes "prec")) _ _ (other_word w _ prec)

-- a word of the table is in front
pub word_in_front : (text word behind v : List ℕ) (l : Lexeme) → text ≡ word ++ behind → goes_on is_ascii_alphabetic behind ≡ false → word ≡ v → ((rest : List ℕ) → goes_on is_ascii_alphabetic rest ≡ false → Spells (37 ∷ v) l rest) → BeginsWith (37 ∷ text) l behind
word_in_front text word behind v l whole stops same f = record { word = 37 ∷ v; whole = ap (λ l. 37 ∷ l) (whole ∙ ap (λ w. w ++ behind) same); spells = f behind stops }

-- `%%` is in front
pub separator_in_front : (text word behind rest : List ℕ) → text ≡ word ++ behind → word ≡ [] → behind ≡ 37 ∷ rest → BeginsWith (37 ∷ text) Separator rest
separator_in_front text word behind rest whole none e = record { word = codes "%%"; whole = ap (λ l. 37 ∷ l) (whole ∙ ap (λ w. w ++ behind) none ∙ e); spells = lexemes.Spells.separator }

module _ (text word behind : List ℕ) (whole : text ≡ word ++ behind) (all : IsTrue (list_all is_ascii_alphabetic word)) (stops : goes_on is_ascii_alphabetic behind ≡ false) where
  -- what is in front of a text that begins with a `%`
  behind_percent : front (37 ∷ text) ≡ word_front (word, behind)
  behind_percent = ap word_front (ap (split_while is_ascii_alphabetic) whole ∙ split_while_is is_ascii_alphabetic word behind all stops)

  -- the word is not in the table
  pub unknown_word_unfit : word ≢ [] → word_lexeme word ≡ None → 37 ∷ text ≢ [] → IsMisfit (37 ∷ text)
  unknown_word_unfit letters e some = unfit_is (37 ∷ text) some (behind_percent ∙ unknown word letters e)
    where
      unknown : (w : List ℕ) → w ≢ [] → word_lexeme w ≡ None → word_front (w, behind) ≡ Unfit
      unknown [] letters e = absurd (letters refl)
      unknown (b ∷ w) letters e = ap (word_found (b ∷ w) behind) e

  -- no word and no second `%` stands behind the `%`
  pub lone_percent_unfit : word ≡ [] → goes_on (is_byte 37) behind ≡ false → 37 ∷ text ≢ [] → IsMisfit (37 ∷ text)
  lone_percent_unfit none e some = unfit_is (37 ∷ text) some (behind_percent ∙ ap (λ w. word_front (w, behind)) none ∙ lone behind e)
    where
      lone : (bs : List ℕ) → goes_on (is_byte 37) bs ≡ false → word_front ([], bs) ≡ Unfit
      lone [] e = refl
      lone (c ∷ bs) e = cond-false (c == 37) _ _ e

-- ---- comments

-- a line comment is in front
pub line_in_front : (text line comment behind : List ℕ) → text ≡ 47 ∷ line → line ≡ comment ++ behind → IsTrue (list_all is_no_line_feed comment) → goes_on is_no_line_feed behind ≡ false → BeginsWithGap (47 ∷ text) behind
line_in_front text line comment behind e whole all stops = record { skipped = codes "//" ++ comment; whole = ap (λ l. 47 ∷ l) (e ∙ ap (λ l. 47 ∷ l) whole); gap = lexemes.IsGap.line all stops }

-- a comment that is closed is in front
pub block_in_front : (text block behind : List ℕ) (i j : ℕ) → text ≡ 42 ∷ block → FindsText (codes "*/") block (Some (i, j)) → behind ≡ drop j block → BeginsWithGap (47 ∷ text) behind
block_in_front text block behind i j e found h =
    let closed : IsCutAtClose block (Some (take i block, drop j block)) = subst (IsCutAtClose block) (closes_at block (drop j block) i found.0 found.1.split) (until_close_closes block) in record {
      skipped = codes "/*" ++ take i block ++ codes "*/";
      whole = ap (λ l. 47 ∷ l) (e ∙ ap (λ l. 42 ∷ l) (closed.0 ∙ sym (append_assoc (take i block) (42 ∷ 47 ∷ []) (drop j block)) ∙ ap (λ l. take i block ++ codes "*/" ++ l) (sym h)));
      gap = lexemes.IsGap.block (take i block) closed.1;
    }

-- a comment that is never closed fits nothing
pub open_block_unfit : (text block : List ℕ) → text ≡ 42 ∷ block → FindsText (codes "*/") block None → 47 ∷ text ≢ [] → IsMisfit (47 ∷ text)
open_block_unfit text block e found some = unfit_is (47 ∷ text) some (rw (e, never_closes block found) refl)

-- ---- by the first byte

-- a text is its first byte and what stands behind it
pub first_cut : {bytes bs behind : List ℕ} {b : ℕ} → Some b ≡ slice_get bytes 0 → bytes ≡ bs → behind ≡ drop 1 bs → bs ≡ b ∷ behind
first_cut {bytes = bytes} {bs = []} e same h = let none = ap (λ l. slice_get l 0) same in cc
first_cut {bytes = bytes} {bs = c ∷ bs} e same h = let first = ap (λ l. slice_get l 0) same in cc

-- what is in front of a text that begins with the byte
pub front_here : {bs behind : List ℕ} {b n : ℕ} (f : found.Front) → bs ≡ b ∷ behind → b ≡ n → IsFront (n ∷ behind) f → IsFront bs f
front_here {behind = behind} f e same h = subst (λ l. IsFront l f) (sym (e ∙ ap (λ c. c ∷ behind) same)) h

-- a blank is in front
pub blank_in_front : {bs behind : List ℕ} {b : ℕ} → bs ≡ b ∷ behind → IsTrue (is_blank b) → BeginsWithGap bs behind
blank_in_front {b = b} e h = record { skipped = b ∷ []; whole = e; gap = lexemes.IsGap.blank h }

-- a mark is in front
pub mark_in_front : {bs behind : List ℕ} {b n : ℕ} {l : Lexeme} → bs ≡ b ∷ behind → b ≡ n → ((rest : List ℕ) → Spells (n ∷ []) l rest) → BeginsWith bs l behind
mark_in_front {behind = behind} {n = n} e same f = record { word = n ∷ []; whole = e ∙ ap (λ c. c ∷ behind) same; spells = f behind }

-- nothing begins with the byte
pub nothing_in_front : {bs behind : List ℕ} {b : ℕ} → bs ≡ b ∷ behind → is_name_start b ≡ false → is_quote b ≡ false → (b == 37) ≡ false → (b == 47) ≡ false → is_blank b ≡ false → (b == 58) ≡ false → (b == 124) ≡ false → (b == 59) ≡ false → bs ≢ [] → IsMisfit bs
nothing_in_front {bs = bs} {behind = behind} {b = b} e name quote word comment blank colon bar semicolon some =
    let nothing : beginning b ≡ OfNothing =
    cond-false (is_name_start b) _ _ name ∙ cond-false (is_quote b) _ _ quote ∙ cond-false (b == 37) _ _ word ∙ cond-false (b == 47) _ _ comment
    ∙ cond-false (is_blank b) _ _ blank ∙ cond-false (b == 58) _ _ colon ∙ cond-false (b == 124) _ _ bar ∙ cond-false (b == 59) _ _ semicolon in
    unfit_is bs some (ap front e ∙ ap (λ k. front_by k b behind) nothing)
