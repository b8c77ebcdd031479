-- what stands in quotes, and which bytes it is
use Rattle.std.specs.Prelude.{◌≡◌, ℕ, ◌+◌, ◌<◌, ◌≤◌, ◌||◌, ◌==◌, not, Bool, true, List, [], ◌∷◌, ◌++◌, slice_index, slice_range}
use Rattle.std.specs.Char.{digit_value}
use Rattle.std.specs.Str.Parse.{AllDigits, digits_value}

-- ---- escapes

-- the byte that a letter behind a backslash is
pub data IsLetterFor : ℕ → ℕ → Type 0 where
  -- `\a`
  alert : IsLetterFor 97 7
  -- `\b`
  backspace : IsLetterFor 98 8
  -- `\t`
  tab : IsLetterFor 116 9
  -- `\n`
  line_feed : IsLetterFor 110 10
  -- `\v`
  vertical_tab : IsLetterFor 118 11
  -- `\f`
  form_feed : IsLetterFor 102 12
  -- `\r`
  carriage_return : IsLetterFor 114 13
  -- `\"`
  double_quote : IsLetterFor 34 34
  -- `\'`
  single_quote : IsLetterFor 39 39
  -- `\?`
  question_mark : IsLetterFor 63 63
  -- `\\`
  backslash : IsLetterFor 92 92

-- digits of a radix stand from one place up to another, and are this number
pub record AreDigits (radix : ℕ) (text : List ℕ) (start end number : ℕ) : Type 0 where
  pub digits : AllDigits radix (slice_range text start end)
  pub value : number ≡ digits_value radix (slice_range text start end)

-- no digit of a radix stands at a place
abbrev pub IsNoDigit : ℕ → List ℕ → ℕ → Type 0
IsNoDigit radix text at = radix ≤ digit_value (slice_index text at)

-- an escape from its backslash up to a place, and the number that it is
pub data IsEscape (text : List ℕ) (start : ℕ) : ℕ → ℕ → Type 0 where
  -- a letter
  letter : {byte : ℕ} → IsLetterFor (slice_index text (start + 1)) byte
      → IsEscape text start (start + 2) byte
  -- octal digits, all that stand there up to the third
  octal : {end number : ℕ} → AreDigits 8 text (start + 1) end number → start + 1 < end
      → end ≤ start + 4 → (end < start + 4 → IsNoDigit 8 text end) → IsEscape text start end number
  -- `x`, and all hexadecimal digits that stand behind it
  hexadecimal : {end number : ℕ} → slice_index text (start + 1) ≡ 120
      → AreDigits 16 text (start + 2) end number → start + 2 < end → IsNoDigit 16 text end
      → IsEscape text start end number
  -- `u` and four of them
  short : {number : ℕ} → slice_index text (start + 1) ≡ 117
      → AreDigits 16 text (start + 2) (start + 6) number → IsEscape text start (start + 6) number
  -- `U` and eight of them
  long : {number : ℕ} → slice_index text (start + 1) ≡ 85
      → AreDigits 16 text (start + 2) (start + 10) number
      → IsEscape text start (start + 10) number

-- ---- bytes in quotes

-- whether a byte stands by itself between quotes: it is no such quote, no line feed and no backslash
abbrev pub is_literal : ℕ → ℕ → Bool
is_literal quote byte = not (byte == quote || (byte == 10 || byte == 92))

-- a byte between quotes, from one place up to another
pub data IsByteIn (quote : ℕ) (text : List ℕ) (start : ℕ) : ℕ → ℕ → Type 0 where
  -- one that stands there by itself
  literal : is_literal quote (slice_index text start) ≡ true
      → IsByteIn quote text start (start + 1) (slice_index text start)
  -- an escape of it
  escape : {end byte : ℕ} → slice_index text start ≡ 92 → IsEscape text start end byte → 0 < byte
      → byte < 256 → IsByteIn quote text start end byte

-- bytes between quotes, one behind another
pub data AreBytesIn (quote : ℕ) (text : List ℕ) (start : ℕ) : ℕ → List ℕ → Type 0 where
  -- none
  none : AreBytesIn quote text start start []
  -- one more behind some
  more : {at end byte : ℕ} {bytes : List ℕ} → AreBytesIn quote text start at bytes
      → IsByteIn quote text at end byte → AreBytesIn quote text start end (bytes ++ byte ∷ [])

-- bytes in quotes: the first such quote that belongs to none of them closes them
pub record AreQuoted (quote : ℕ) (bytes : List ℕ) (text : List ℕ) (start end : ℕ) : Type 0 where
  pub last : ℕ
  pub opens : slice_index text start ≡ quote
  pub between : AreBytesIn quote text (start + 1) last bytes
  pub closes : slice_index text last ≡ quote
  pub ends : end ≡ last + 1

-- any bytes in quotes
abbrev pub IsText : List ℕ → ℕ → ℕ → Type 0
IsText text start end = (bytes : List ℕ) × AreQuoted 34 bytes text start end

-- a text to be translated: `_(`, a text, and `)`
pub record IsTranslated (text : List ℕ) (start end : ℕ) : Type 0 where
  pub last : ℕ
  pub begins : slice_index text start ≡ 95
  pub opens : slice_index text (start + 1) ≡ 40
  pub between : IsText text (start + 2) last
  pub closes : slice_index text last ≡ 41
  pub ends : end ≡ last + 1
