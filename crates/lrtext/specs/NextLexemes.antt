-- what stands in front of a text, and what comes next in it behind blanks and comments
use Rattle.std.specs.Prelude.{◌≡◌, ◌≢◌, ℕ, ◌<◌, ◌≤◌, List, [], ◌++◌, length}
use Rattle.lrtext.specs.declared.lexemes.Lexeme as stored
use Rattle.lrtext.specs.declared.lexemes.Lexeme.TheVariants as code
use Rattle.lrtext.specs.declared.lexemes.Front.{Front}
use Rattle.lrtext.specs.declared.lexemes.Front.TheVariants as front
use Rattle.lrtext.specs.declared.lexemes.Next.{Next}
use Rattle.lrtext.specs.declared.lexemes.Next.TheVariants as next
use Rattle.lrspec.specs.texts.Lexemes as text
use Rattle.lrspec.specs.texts.Lexemes.{Lexeme, IsGap, Spells, IsMisfit}
use Rattle.lrtext.specs.StoredParts.{kind_of}

-- the lexeme of a text that a lexeme of the code is
abbrev pub lexeme_of : stored.Lexeme → Lexeme
lexeme_of (code.Name s) = text.Lexeme.Name s.now
lexeme_of (code.Quoted s) = text.Lexeme.Quoted s.now
lexeme_of code.StartWord = text.Lexeme.StartWord
lexeme_of code.TokenWord = text.Lexeme.TokenWord
lexeme_of (code.KindWord k) = text.Lexeme.KindWord (kind_of k)
lexeme_of code.PrecedenceWord = text.Lexeme.PrecedenceWord
lexeme_of code.Separator = text.Lexeme.Separator
lexeme_of code.Colon = text.Lexeme.Colon
lexeme_of code.Bar = text.Lexeme.Bar
lexeme_of code.Semicolon = text.Lexeme.Semicolon

-- the text begins with a blank or a comment, and `behind` stands behind it
pub record BeginsWithGap (text behind : List ℕ) : Type 0 where
  pub skipped : List ℕ
  pub whole : text ≡ skipped ++ behind
  pub gap : IsGap skipped behind

-- the text begins with the lexeme, and `behind` stands behind it
pub record BeginsWith (text : List ℕ) (l : Lexeme) (behind : List ℕ) : Type 0 where
  pub word : List ℕ
  pub whole : text ≡ word ++ behind
  pub spells : Spells word l behind

-- what stands in front of a text: a blank or a comment; a lexeme; or none of them
abbrev pub IsFront : List ℕ → Front → Type 0
IsFront text (front.Gap behind) = BeginsWithGap text behind.now
IsFront text (front.Found lexeme behind) = BeginsWith text (lexeme_of lexeme) behind.now
IsFront text front.Unfit = text ≢ [] → IsMisfit text

-- ---- behind blanks and comments

-- the bytes in front of `rest` are blanks and whole comments, one behind the other, or none
pub data Gaps : List ℕ → List ℕ → Type 0 where
  none : {rest : List ℕ} → Gaps [] rest
  more : {w g rest : List ℕ} → IsGap w (g ++ rest) → Gaps g rest → Gaps (w ++ g) rest

-- behind blanks and comments the text goes on with `at`
pub record GoesOnAt (text at : List ℕ) : Type 0 where
  pub skipped : List ℕ
  pub whole : text ≡ skipped ++ at
  pub gaps : Gaps skipped at

-- the next lexeme of the text, behind blanks and comments, stands at the rest `at` of it and in
-- front of `behind`
pub record HasNext (text at : List ℕ) (l : Lexeme) (behind : List ℕ) : Type 0 where
  pub goes_on : GoesOnAt text at
  pub begins : BeginsWith at l behind
  pub within : length at ≤ length text
  pub shorter : length behind < length at

-- behind blanks and comments no lexeme begins
pub record HasMisfit (text at : List ℕ) : Type 0 where
  pub goes_on : GoesOnAt text at
  pub misfit : IsMisfit at
  pub within : length at ≤ length text

-- what comes next in a text, behind blanks and comments: its end, a misfit, or a lexeme with what
-- stands behind it
abbrev pub IsNext : List ℕ → Next → Type 0
IsNext rest next.End = GoesOnAt rest []
IsNext rest (next.Misfit at) = HasMisfit rest at.now
IsNext rest (next.Lexeme at lexeme behind) = HasNext rest at.now (lexeme_of lexeme) behind.now
