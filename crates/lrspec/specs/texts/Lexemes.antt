-- what a text is cut into: its blanks, comments and lexemes, byte by byte
use Rattle.std.specs.Prelude.{◌≡◌, ◌≢◌, ℕ, ◌+◌, Bool, false, not, ◌==◌, ◌&&◌, ◌||◌, IsTrue, List, [], ◌∷◌, ◌++◌, length, codes}
use Rattle.std.specs.Char.{is_ascii_alphabetic, is_ascii_digit}
use Rattle.std.specs.List.{list_all}
use Rattle.lrspec.specs.grammars.Grammar.{Kind, Left, Right, Nonassoc}

-- a lexeme of a grammar text
pub data Lexeme : Type 0 where
  -- a name, and a name between quotes
  Name Quoted : List ℕ → Lexeme
  -- `%start`, `%token`, and the word of a precedence line
  StartWord TokenWord : Lexeme
  KindWord : Kind → Lexeme
  -- `%prec`
  PrecedenceWord : Lexeme
  -- `%%`, `:`, `|` and `;`
  Separator Colon Bar Semicolon : Lexeme
  -- a place where no lexeme begins
  Misfit : Lexeme

-- space, tab, line feed, carriage return
abbrev pub is_blank : ℕ → Bool
is_blank b = b == 32 || b == 9 || b == 10 || b == 13

-- all but the line feed
abbrev pub is_no_line_feed : ℕ → Bool
is_no_line_feed b = not (b == 10)

-- a letter, `_` or `.`
abbrev pub is_name_start : ℕ → Bool
is_name_start b = is_ascii_alphabetic b || b == 95 || b == 46

-- the same and the digits
abbrev pub is_name_byte : ℕ → Bool
is_name_byte b = is_name_start b || is_ascii_digit b

-- `'` and `"`
abbrev pub is_quote : ℕ → Bool
is_quote b = b == 39 || b == 34

-- what may stand between two quotes `q`: all but that quote and the ends of lines
abbrev pub may_be_quoted : ℕ → ℕ → Bool
may_be_quoted q b = not (b == q) && not (b == 10) && not (b == 13)

-- whether the next byte of a text is such a byte
abbrev pub goes_on : (ℕ → Bool) → List ℕ → Bool
goes_on test [] = false
goes_on test (b ∷ bs) = test b

-- whether `*/` stands somewhere
abbrev pub has_close : List ℕ → Bool
has_close [] = false
has_close (b ∷ []) = false
has_close (b ∷ c ∷ bs) = b == 42 && c == 47 || has_close (c ∷ bs)

-- the bytes in front of `rest` are a blank or a whole comment: a line comment goes on up to a line
-- feed or the end, and any other up to the first `*/` behind its `/*`
pub data IsGap : List ℕ → List ℕ → Type 0 where
  blank : {b : ℕ} {rest : List ℕ} → IsTrue (is_blank b) → IsGap (b ∷ []) rest
  line : {c rest : List ℕ} → IsTrue (list_all is_no_line_feed c)
      → goes_on is_no_line_feed rest ≡ false → IsGap (codes "//" ++ c) rest
  block : (c : List ℕ) {rest : List ℕ} → has_close (c ++ codes "*") ≡ false
      → IsGap (codes "/*" ++ c ++ codes "*/") rest

-- the bytes in front of `rest` are the lexeme: names and words go as far as they can
pub data Spells : List ℕ → Lexeme → List ℕ → Type 0 where
  name : {b : ℕ} {w rest : List ℕ} → IsTrue (is_name_start b) → IsTrue (list_all is_name_byte w)
      → goes_on is_name_byte rest ≡ false → Spells (b ∷ w) (Name (b ∷ w)) rest
  quoted : {q b : ℕ} {w rest : List ℕ} → IsTrue (is_quote q)
      → IsTrue (list_all (may_be_quoted q) (b ∷ w))
      → Spells (q ∷ b ∷ w ++ q ∷ []) (Quoted (b ∷ w)) rest
  start : {rest : List ℕ} → goes_on is_ascii_alphabetic rest ≡ false
      → Spells (codes "%start") StartWord rest
  token : {rest : List ℕ} → goes_on is_ascii_alphabetic rest ≡ false
      → Spells (codes "%token") TokenWord rest
  left : {rest : List ℕ} → goes_on is_ascii_alphabetic rest ≡ false
      → Spells (codes "%left") (KindWord Left) rest
  right : {rest : List ℕ} → goes_on is_ascii_alphabetic rest ≡ false
      → Spells (codes "%right") (KindWord Right) rest
  nonassoc : {rest : List ℕ} → goes_on is_ascii_alphabetic rest ≡ false
      → Spells (codes "%nonassoc") (KindWord Nonassoc) rest
  precedence : {rest : List ℕ} → goes_on is_ascii_alphabetic rest ≡ false
      → Spells (codes "%prec") PrecedenceWord rest
  separator : {rest : List ℕ} → Spells (codes "%%") Separator rest
  colon : {rest : List ℕ} → Spells (codes ":") Colon rest
  bar : {rest : List ℕ} → Spells (codes "|") Bar rest
  semicolon : {rest : List ℕ} → Spells (codes ";") Semicolon rest

-- a text that isn't at its end, but goes on with no blank, comment or lexeme
pub record IsMisfit (text : List ℕ) : Type 0 where
  pub some : text ≢ []
  pub no_gap : (w rest : List ℕ) → text ≡ w ++ rest → IsGap w rest → ⊥
  pub no_lexeme : (w rest : List ℕ) (l : Lexeme) → text ≡ w ++ rest → Spells w l rest → ⊥

-- a lexeme and the byte at which it begins
pub record Placed : Type 0 where
  pub place : ℕ
  pub lexeme : Lexeme

-- the lexemes of a text that begins at place `n`; a misfit ends them
pub data HasLexemes : List ℕ → ℕ → List Placed → Type 0 where
  end : {n : ℕ} → HasLexemes [] n []
  gap : {w rest : List ℕ} {n : ℕ} {ps : List Placed} → IsGap w rest
      → HasLexemes rest (n + length w) ps → HasLexemes (w ++ rest) n ps
  lexeme : {w rest : List ℕ} {l : Lexeme} {n : ℕ} {ps : List Placed} → Spells w l rest
      → HasLexemes rest (n + length w) ps
      → HasLexemes (w ++ rest) n (record { place = n; lexeme = l } ∷ ps)
  misfit : {text : List ℕ} {n : ℕ} → IsMisfit text
      → HasLexemes text n (record { place = n; lexeme = Misfit } ∷ [])
