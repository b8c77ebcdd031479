-- code of a host language, and where it ends
use Rattle.std.specs.Prelude.{◌≡◌, ◌≢◌, ℕ, ◌+◌, ◌<◌, ◌≤◌, ◌⊎◌, ◌&&◌, ◌||◌, ◌==◌, Bool, true, false, List, length, min, slice_index}
use Rattle.lryacc.specs.declared.code.Ending.{Ending}
use Rattle.lryacc.specs.declared.code.Ending.TheVariants.{Brace, File, PrologueMark}
use Rattle.lryacc.specs.Comments.{IsBackslash, IsBlock, IsLineComment, IsPair}

-- ---- quotes

-- what stands between quotes, from one place up to another: bytes, and backslashes, each of which takes the byte behind it, or
-- blanks and the end of the line
pub data AreInQuotation (quote : ℕ) (text : List ℕ) (from : ℕ) : ℕ → Type 0 where
  -- nothing
  nothing : AreInQuotation quote text from from
  -- a byte that is no such quote, no line feed and no backslash
  one : {at : ℕ} → AreInQuotation quote text from at → slice_index text at ≢ quote
      → slice_index text at ≢ 10 → slice_index text at ≢ 92 → AreInQuotation quote text from (at + 1)
  -- a backslash, and any byte
  escaped : {at : ℕ} → AreInQuotation quote text from at → slice_index text at ≡ 92
      → AreInQuotation quote text from (at + 2)
  -- a backslash, blanks, and a line feed
  spliced : {at end : ℕ} → AreInQuotation quote text from at → IsBackslash text at end
      → slice_index text end ≡ 10 → AreInQuotation quote text from (end + 1)

-- a `"` or a `'` stands at a place
pub record IsQuote (quote : ℕ) (text : List ℕ) (at : ℕ) : Type 0 where
  pub one : (quote ≡ 34) ⊎ (quote ≡ 39)
  pub is : slice_index text at ≡ quote

-- a quote, and what stands between it and the next one such, whose place is `last`
pub record IsQuotation (text : List ℕ) (start last : ℕ) : Type 0 where
  pub quote : ℕ
  pub opens : IsQuote quote text start
  pub between : AreInQuotation quote text (start + 1) last
  pub closes : slice_index text last ≡ quote

-- ---- marks

-- whether a byte is a mark of code by itself: a brace or a quote
abbrev pub is_single : ℕ → Bool
is_single byte = byte == 123 || (byte == 125 || (byte == 39 || byte == 34))

-- whether `%}` ends the code
abbrev pub ends_with_mark : Ending → Bool
ends_with_mark PrologueMark = true
ends_with_mark _ = false

-- whether two bytes are a mark together: `//`, `/*`, `<<`, `<%`, `%>`, or `%}` where that ends the code
abbrev pub is_mark : Ending → ℕ → ℕ → Bool
is_mark ending first second =
    (second == 47 || second == 42) && first == 47
    || ((second == 60 || second == 37) && first == 60
    || (second == 62 || second == 125 && ends_with_mark ending) && first == 37)

-- a byte that begins no mark
pub record IsPlain (ending : Ending) (text : List ℕ) (at : ℕ) : Type 0 where
  pub single : is_single (slice_index text at) ≡ false
  pub pair : is_mark ending (slice_index text at) (slice_index text (at + 1)) ≡ false

-- ---- code

-- code from one place up to another, in which so many braces are opened, and so many closed: plain bytes, `<<`, braces, what
-- stands between quotes, and comments. Where a `}` is to end the code, it is a brace of it only while one is open
pub data IsCode (ending : Ending) (text : List ℕ) (from : ℕ) : ℕ → ℕ → ℕ → Type 0 where
  -- nothing
  nothing : IsCode ending text from from 0 0
  -- a byte that begins no mark
  plain : {at opened closed : ℕ} → IsCode ending text from at opened closed
      → IsPlain ending text at → IsCode ending text from (at + 1) opened closed
  -- `<<`
  shift : {at opened closed : ℕ} → IsCode ending text from at opened closed
      → IsPair text at 60 60 → IsCode ending text from (at + 2) opened closed
  -- `{`
  opens : {at opened closed : ℕ} → IsCode ending text from at opened closed
      → slice_index text at ≡ 123 → IsCode ending text from (at + 1) (opened + 1) closed
  -- `<%`
  opens_pair : {at opened closed : ℕ} → IsCode ending text from at opened closed
      → IsPair text at 60 37 → IsCode ending text from (at + 2) (opened + 1) closed
  -- `}`, where it does not end the code
  closes : {at opened closed : ℕ} → IsCode ending text from at opened closed
      → slice_index text at ≡ 125 → (ending ≡ Brace → closed < opened)
      → IsCode ending text from (at + 1) opened (closed + 1)
  -- `%>`, which ends no code
  closes_pair : {at opened closed : ℕ} → IsCode ending text from at opened closed
      → IsPair text at 37 62 → IsCode ending text from (at + 2) opened (closed + 1)
  -- what stands between quotes, with these
  quotation : {at last opened closed : ℕ} → IsCode ending text from at opened closed
      → IsQuotation text at last → IsCode ending text from (last + 1) opened closed
  -- a comment up to the end of its line
  line : {at end opened closed : ℕ} → IsCode ending text from at opened closed
      → IsLineComment text at end → IsCode ending text from (min (end + 1) (length text)) opened closed
  -- a comment up to `*/`
  block : {at last opened closed : ℕ} → IsCode ending text from at opened closed
      → IsBlock text at last → IsCode ending text from (last + 2) opened closed

-- ---- where it ends

-- with the first `}` at which no brace of it is open
pub record EndsWithBrace (text : List ℕ) (from end : ℕ) : Type 0 where
  pub last : ℕ
  pub opened : ℕ
  pub closed : ℕ
  pub code : IsCode Brace text from last opened closed
  pub all : opened ≤ closed
  pub brace : slice_index text last ≡ 125
  pub behind : end ≡ last + 1

-- with the first `%}`
pub record EndsWithMark (text : List ℕ) (from end : ℕ) : Type 0 where
  pub last : ℕ
  pub opened : ℕ
  pub closed : ℕ
  pub code : IsCode PrologueMark text from last opened closed
  pub mark : IsPair text last 37 125
  pub behind : end ≡ last + 2

-- with the text
pub record EndsWithText (text : List ℕ) (from end : ℕ) : Type 0 where
  pub opened : ℕ
  pub closed : ℕ
  pub code : IsCode File text from end opened closed
  pub all : end ≡ length text

-- where code that begins at a place ends
abbrev pub EndsCode : Ending → List ℕ → ℕ → ℕ → Type 0
EndsCode Brace = EndsWithBrace
EndsCode PrologueMark = EndsWithMark
EndsCode File = EndsWithText
