-- what stands in front of a text, as a function that proofs compute with and no contract cites
use Rattle.std.specs.Prelude.{ℕ, cond, ◌==◌, List, [], ◌∷◌, ◌++◌, Option, None, Some, codes, bytes_eq}
use Rattle.std.specs.Char.{is_ascii_alphabetic}
use Rattle.lrspec.specs.grammars.Grammar.{Left, Right, Nonassoc}
use Rattle.lrspec.specs.texts.Lexemes.{Lexeme, Name, Quoted, StartWord, TokenWord, KindWord, PrecedenceWord, Separator, Colon, Bar, Semicolon, is_blank, is_no_line_feed, is_name_start, is_name_byte, is_quote, may_be_quoted}
use Rattle.lrspec.proofs.texts.ByteSplits.{split_while, until_close}

-- what stands in front of a text: a blank or a comment, or a lexeme, with its bytes and the rest; or nothing that fits
pub data Front : Type 0 where
  Gap : List ℕ → List ℕ → Front
  Found : Lexeme → List ℕ → List ℕ → Front
  Unfit : Front

-- what may begin with a byte
pub data Beginning : Type 0 where
  OfName OfQuoted OfWord OfComment OfBlank : Beginning
  OfMark : Lexeme → Beginning
  OfNothing : Beginning

-- what may begin with this byte
abbrev pub beginning : ℕ → Beginning
beginning b =
    cond (is_name_start b) OfName (cond (is_quote b) OfQuoted (cond (b == 37) OfWord (cond (b == 47) OfComment (cond (is_blank b) OfBlank
    (cond (b == 58) (OfMark Colon) (cond (b == 124) (OfMark Bar) (cond (b == 59) (OfMark Semicolon) OfNothing)))))))

-- a name, by the bytes behind its first and the rest
abbrev pub name_front : ℕ → List ℕ × List ℕ → Front
name_front b (w, rest) = Found (Name (b ∷ w)) (b ∷ w) rest

-- a quoted name, by the bytes that may be quoted and the rest
abbrev pub quoted_front : ℕ → List ℕ × List ℕ → Front
quoted_front q ([], rest) = Unfit
quoted_front q (b ∷ w, []) = Unfit
quoted_front q (b ∷ w, c ∷ rest) = cond (c == q) (Found (Quoted (b ∷ w)) (q ∷ b ∷ w ++ q ∷ []) rest) Unfit

-- the table of words
abbrev pub word_lexeme : List ℕ → Option Lexeme
word_lexeme w =
    cond (bytes_eq w (codes "start")) (Some StartWord) (cond (bytes_eq w (codes "token")) (Some TokenWord) (cond (bytes_eq w (codes "left")) (Some (KindWord Left))
    (cond (bytes_eq w (codes "right")) (Some (KindWord Right)) (cond (bytes_eq w (codes "nonassoc")) (Some (KindWord Nonassoc))
    (cond (bytes_eq w (codes "prec")) (Some PrecedenceWord) None)))))

-- a word, by the answer of the table
abbrev pub word_found : List ℕ → List ℕ → Option Lexeme → Front
word_found w rest None = Unfit
word_found w rest (Some i) = Found i (37 ∷ w) rest

-- a word or `%%`, by the letters behind the `%` and the rest
abbrev pub word_front : List ℕ × List ℕ → Front
word_front ([], []) = Unfit
word_front ([], c ∷ rest) = cond (c == 37) (Found Separator (codes "%%") rest) Unfit
word_front (b ∷ w, rest) = word_found (b ∷ w) rest (word_lexeme (b ∷ w))

-- a line comment
abbrev pub line_front : List ℕ × List ℕ → Front
line_front (c, rest) = Gap (codes "//" ++ c) rest

-- a comment in two marks, if it is closed
abbrev pub block_front : Option (List ℕ × List ℕ) → Front
block_front None = Unfit
block_front (Some (c, rest)) = Gap (codes "/*" ++ c ++ codes "*/") rest

-- a comment, by what stands behind its `/`
abbrev pub comment_front : List ℕ → Front
comment_front [] = Unfit
comment_front (c ∷ bs) = cond (c == 47) (line_front (split_while is_no_line_feed bs)) (cond (c == 42) (block_front (until_close bs)) Unfit)

-- what stands in front, by what begins there
abbrev pub front_by : Beginning → ℕ → List ℕ → Front
front_by OfName b bs = name_front b (split_while is_name_byte bs)
front_by OfQuoted b bs = quoted_front b (split_while (may_be_quoted b) bs)
front_by OfWord b bs = word_front (split_while is_ascii_alphabetic bs)
front_by OfComment b bs = comment_front bs
front_by OfBlank b bs = Gap (b ∷ []) bs
front_by (OfMark i) b bs = Found i (b ∷ []) bs
front_by OfNothing b bs = Unfit

-- what stands in front of a text
abbrev pub front : List ℕ → Front
front [] = Unfit
front (b ∷ bs) = front_by (beginning b) b bs
