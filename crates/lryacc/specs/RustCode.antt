-- code of Rust, and where it ends
use Rattle.std.specs.Prelude.{◌≡◌, ◌≢◌, ℕ, ◌+◌, ◌<◌, ◌≤◌, ◌⊎◌, ◌&&◌, ◌||◌, ◌==◌, nat_le, Bool, true, false, List, slice_index}
use Rattle.std.specs.Char.{is_ascii_alphanumeric, is_ascii_digit}
use Rattle.lryacc.specs.Comments.{IsPair}

-- ---- words

-- whether a word may have a byte: letters, digits, `_`, and all bytes beyond ASCII
abbrev pub is_word_byte : ℕ → Bool
is_word_byte byte = is_ascii_alphanumeric byte || (byte == 95 || nat_le 128 byte)

-- whether a byte goes on a character of several bytes
abbrev pub goes_on : ℕ → Bool
goes_on byte = nat_le 128 byte && nat_le byte 191

-- all bytes of a word that stand from one place up to another, maybe none
pub record IsWordRun (text : List ℕ) (start end : ℕ) : Type 0 where
  pub ordered : start ≤ end
  pub each : (at : ℕ) → at < end → start ≤ at → is_word_byte (slice_index text at) ≡ true
  pub ends : is_word_byte (slice_index text end) ≡ false

-- so many `#` stand from a place on
abbrev pub AreMarks : List ℕ → ℕ → ℕ → Type 0
AreMarks text at marks = (k : ℕ) → k < marks → slice_index text (at + k) ≡ 35

-- `r`, or `br` or `cr`: the prefix of a raw string
abbrev pub IsRawPrefix : List ℕ → ℕ → ℕ → Type 0
IsRawPrefix text start end =
    ((end ≡ start + 1) × (slice_index text start ≡ 114))
    ⊎ ((end ≡ start + 2) × (slice_index text (start + 1) ≡ 114)
    × ((slice_index text start ≡ 98) ⊎ (slice_index text start ≡ 99)))

-- a word; the prefix of a raw string is none before a quote or `#`
pub record IsRustWord (text : List ℕ) (start end : ℕ) : Type 0 where
  pub some : start < end
  pub run : IsWordRun text start end
  pub no_prefix : IsRawPrefix text start end
      → (slice_index text end ≢ 34) × (slice_index text end ≢ 35)

-- the prefix of a raw string, `#` and a word, maybe an empty one, in place of a quote
pub record IsRawName (text : List ℕ) (start end : ℕ) : Type 0 where
  pub behind : ℕ
  pub marks : ℕ
  pub prefix : IsRawPrefix text start behind
  pub some : 0 < marks
  pub are : AreMarks text behind marks
  pub no_quote : slice_index text (behind + marks) ≢ 34
  pub no_mark : slice_index text (behind + marks) ≢ 35
  pub rest : IsWordRun text (behind + marks) end

-- ---- strings

-- what stands in a string, from one place up to another: bytes, and backslashes, each of which takes the byte behind it
pub data AreInString (text : List ℕ) (from : ℕ) : ℕ → Type 0 where
  -- nothing
  nothing : AreInString text from from
  -- a byte that is no such quote and no backslash
  one : {at : ℕ} → AreInString text from at → slice_index text at ≢ 34
      → slice_index text at ≢ 92 → AreInString text from (at + 1)
  -- a backslash, and any byte
  escaped : {at : ℕ} → AreInString text from at → slice_index text at ≡ 92
      → AreInString text from (at + 2)

-- a string, whose last quote stands at `last`
pub record IsString (text : List ℕ) (start last : ℕ) : Type 0 where
  pub opens : slice_index text start ≡ 34
  pub between : AreInString text (start + 1) last
  pub closes : slice_index text last ≡ 34

-- a quote and so many `#`
pub record IsRawEnd (text : List ℕ) (at marks : ℕ) : Type 0 where
  pub quote : slice_index text at ≡ 34
  pub are : AreMarks text (at + 1) marks

-- the prefix of a raw string, so many `#`, and its quote
pub record BeginsRaw (text : List ℕ) (start quote marks : ℕ) : Type 0 where
  pub behind : ℕ
  pub prefix : IsRawPrefix text start behind
  pub are : AreMarks text behind marks
  pub at : quote ≡ behind + marks
  pub is : slice_index text quote ≡ 34

-- a raw string, up to the first quote with as many `#` behind it as stand before its first one
pub record IsRaw (text : List ℕ) (start last marks : ℕ) : Type 0 where
  pub quote : ℕ
  pub begins : BeginsRaw text start quote marks
  pub behind : quote < last
  pub first : (at : ℕ) → at < last → quote < at → ¬ IsRawEnd text at marks
  pub ends : IsRawEnd text last marks

-- ---- characters and lifetimes

-- a character that stands for itself, whose last quote stands at `last`
pub record IsPlainCharacter (text : List ℕ) (start last : ℕ) : Type 0 where
  pub opens : slice_index text start ≡ 39
  pub no_quote : slice_index text (start + 1) ≢ 39
  pub no_feed : slice_index text (start + 1) ≢ 10
  pub no_backslash : slice_index text (start + 1) ≢ 92
  pub behind : start + 2 ≤ last
  pub on : (at : ℕ) → at < last → start + 2 ≤ at → goes_on (slice_index text at) ≡ true
  pub closes : slice_index text last ≡ 39

-- a character that begins with a backslash, which takes the byte behind it
pub record IsEscapedCharacter (text : List ℕ) (start last : ℕ) : Type 0 where
  pub opens : slice_index text start ≡ 39
  pub backslash : slice_index text (start + 1) ≡ 92
  pub no_feed : slice_index text (start + 2) ≢ 10
  pub behind : start + 3 ≤ last
  pub each : (at : ℕ) → at < last → start + 3 ≤ at
      → (slice_index text at ≢ 39) × (slice_index text at ≢ 10)
  pub closes : slice_index text last ≡ 39

-- a lifetime: a `'` and a word that begins with no digit, where there is no character
pub record IsLifetime (text : List ℕ) (start end : ℕ) : Type 0 where
  pub opens : slice_index text start ≡ 39
  pub word : is_word_byte (slice_index text (start + 1)) ≡ true
  pub no_digit : is_ascii_digit (slice_index text (start + 1)) ≡ false
  pub run : IsWordRun text (start + 1) end
  pub no_character : (last : ℕ) → ¬ IsPlainCharacter text start last

-- ---- comments

-- a comment from `//` up to the end of its line, whose place is `last`
pub record IsRustLine (text : List ℕ) (start last : ℕ) : Type 0 where
  pub opens : IsPair text start 47 47
  pub behind : start + 2 ≤ last
  pub first : (at : ℕ) → at < last → start + 2 ≤ at → slice_index text at ≢ 10
  pub feed : slice_index text last ≡ 10

-- comments that begin with a `/*`, up to a place at which so many of them are open
pub data AreComments (text : List ℕ) (start : ℕ) : ℕ → ℕ → Type 0 where
  -- `/*`, which opens the first one
  begins : IsPair text start 47 42 → AreComments text start (start + 2) 1
  -- a byte that begins neither `/*` nor `*/`
  one : {at levels : ℕ} → AreComments text start at levels → ¬ IsPair text at 47 42
      → ¬ IsPair text at 42 47 → AreComments text start (at + 1) levels
  -- `/*`, which opens one more
  opens : {at levels : ℕ} → AreComments text start at levels → IsPair text at 47 42
      → AreComments text start (at + 2) (levels + 1)
  -- `*/`, which closes one that is not the first
  closes : {at levels : ℕ} → AreComments text start at (levels + 1) → 0 < levels
      → IsPair text at 42 47 → AreComments text start (at + 2) levels

-- they end with the `*/` of the first one, at the place `last`
pub record IsNested (text : List ℕ) (start last : ℕ) : Type 0 where
  pub between : AreComments text start last 1
  pub closes : IsPair text last 42 47

-- ---- code

-- a byte that is part of nothing else
pub record IsOther (text : List ℕ) (at : ℕ) : Type 0 where
  pub no_word : is_word_byte (slice_index text at) ≡ false
  pub no_text : slice_index text at ≢ 34
  pub no_quote : slice_index text at ≢ 39
  pub no_opening : slice_index text at ≢ 123
  pub no_closing : slice_index text at ≢ 125
  pub no_line : ¬ IsPair text at 47 47
  pub no_block : ¬ IsPair text at 47 42

-- code from one place up to another, at which so many braces are open
pub data IsRustCode (text : List ℕ) (from : ℕ) : ℕ → ℕ → Type 0 where
  -- nothing
  nothing : IsRustCode text from from 0
  -- a byte that is part of nothing else
  other : {at depth : ℕ} → IsRustCode text from at depth → IsOther text at
      → IsRustCode text from (at + 1) depth
  -- `{`
  opens : {at depth : ℕ} → IsRustCode text from at depth → slice_index text at ≡ 123
      → IsRustCode text from (at + 1) (depth + 1)
  -- `}`, where a brace is open
  closes : {at depth : ℕ} → IsRustCode text from at (depth + 1) → slice_index text at ≡ 125
      → IsRustCode text from (at + 1) depth
  -- a word
  word : {at end depth : ℕ} → IsRustCode text from at depth → IsRustWord text at end
      → IsRustCode text from end depth
  -- the prefix of a raw string and `#`, with no quote behind them
  raw_name : {at end depth : ℕ} → IsRustCode text from at depth → IsRawName text at end
      → IsRustCode text from end depth
  -- a string
  string : {at last depth : ℕ} → IsRustCode text from at depth → IsString text at last
      → IsRustCode text from (last + 1) depth
  -- a raw string
  raw : {at last marks depth : ℕ} → IsRustCode text from at depth → IsRaw text at last marks
      → IsRustCode text from (last + 1 + marks) depth
  -- a character that stands for itself
  plain : {at last depth : ℕ} → IsRustCode text from at depth → IsPlainCharacter text at last
      → IsRustCode text from (last + 1) depth
  -- a character that begins with a backslash
  escape : {at last depth : ℕ} → IsRustCode text from at depth → IsEscapedCharacter text at last
      → IsRustCode text from (last + 1) depth
  -- a lifetime
  lifetime : {at end depth : ℕ} → IsRustCode text from at depth → IsLifetime text at end
      → IsRustCode text from end depth
  -- a comment up to the end of its line
  line : {at last depth : ℕ} → IsRustCode text from at depth → IsRustLine text at last
      → IsRustCode text from (last + 1) depth
  -- comments up to `*/`, in one another
  comments : {at last depth : ℕ} → IsRustCode text from at depth → IsNested text at last
      → IsRustCode text from (last + 2) depth

-- it ends with the first `}` at which no brace of it is open
pub record EndsRustCode (text : List ℕ) (from end : ℕ) : Type 0 where
  pub last : ℕ
  pub code : IsRustCode text from last 0
  pub brace : slice_index text last ≡ 125
  pub behind : end ≡ last + 1
