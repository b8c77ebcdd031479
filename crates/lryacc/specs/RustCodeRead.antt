-- code of Rust that is read up to a place within it
use Rattle.std.specs.Prelude.{◌≡◌, ◌≢◌, ℕ, ◌+◌, ◌-◌, ◌^◌, ◌<◌, ◌≤◌, ◌⊎◌, Bool, true, false, Option, None, Some, List, slice_index}
use Rattle.std.specs.Char.{is_ascii_digit}
use Rattle.lryacc.specs.declared.rust_code.Before.{Before}
use Rattle.lryacc.specs.declared.rust_code.Before.TheVariants as before
use Rattle.lryacc.specs.declared.rust_code.Half.{Half}
use Rattle.lryacc.specs.declared.rust_code.Half.TheVariants as half
use Rattle.lryacc.specs.declared.rust_code.Piece.{Piece}
use Rattle.lryacc.specs.declared.rust_code.Piece.TheVariants as piece
use Rattle.lryacc.specs.declared.rust_code.RustReader.{RustReader}
use Rattle.lryacc.specs.declared.rust_code.Within.{Within}
use Rattle.lryacc.specs.declared.rust_code.Within.TheVariants as within
use Rattle.lryacc.specs.Comments.{IsPair}
use Rattle.lryacc.specs.RustCode.{AreComments, AreInString, AreMarks, BeginsRaw, EndsRustCode, IsRawEnd, IsRawPrefix, IsRustCode, IsWordRun, goes_on, is_word_byte}

-- ---- bytes

-- a byte does not go on what the bytes before began
abbrev pub Settles : Before → ℕ → Type 0
Settles before.Nothing byte = Unit {0}
Settles before.Slash byte = (byte ≢ 47) × (byte ≢ 42)
Settles before.Word byte = is_word_byte byte ≡ false
Settles before.Prefix byte = is_word_byte byte ≡ false
Settles (before.Raw marks) byte = (byte ≢ 34) × (byte ≢ 35) × (is_word_byte byte ≡ false)

-- what a byte begins that goes on nothing
abbrev pub Begins : ℕ → Before → Type 0
Begins byte before.Nothing = (byte ≢ 47) × (is_word_byte byte ≡ false)
Begins byte before.Slash = byte ≡ 47
Begins byte before.Word = (is_word_byte byte ≡ true) × (byte ≢ 114) × (byte ≢ 98) × (byte ≢ 99)
Begins byte before.Prefix = (byte ≡ 98) ⊎ (byte ≡ 99)
Begins byte (before.Raw marks) = (marks ≡ 0) × (byte ≡ 114)

-- what a byte of a comment may begin
abbrev pub IsHalf : ℕ → Half → Type 0
IsHalf byte half.Nothing = (byte ≢ 47) × (byte ≢ 42)
IsHalf byte half.Slash = byte ≡ 47
IsHalf byte half.Star = byte ≡ 42

-- ---- code itself

-- code up to a byte of a class, which stands right before a place
abbrev pub IsBehindByte : (ℕ → Type 0) → List ℕ → ℕ → ℕ → ℕ → Type 0
IsBehindByte Class text from at depth =
    (last : ℕ) × (at ≡ last + 1) × IsRustCode text from last depth × Class (slice_index text last)

-- code up to the prefix of a raw string, and so many `#`
pub record IsRawUpTo (text : List ℕ) (from at depth marks : ℕ) : Type 0 where
  pub start : ℕ
  pub behind : ℕ
  pub code : IsRustCode text from start depth
  pub prefix : IsRawPrefix text start behind
  pub are : AreMarks text behind marks
  pub at_is : at ≡ behind + marks

-- code goes on up to a place; behind a part of a word, whatever bytes of a word stand there belong to it
abbrev pub IsBehind : List ℕ → ℕ → ℕ → ℕ → Before → Type 0
IsBehind text from at depth before.Nothing = IsRustCode text from at depth
IsBehind text from at depth before.Slash = IsBehindByte (λ byte. byte ≡ 47) text from at depth
IsBehind text from at depth before.Word =
    (end : ℕ) → IsWordRun text at end → IsRustCode text from end depth
IsBehind text from at depth before.Prefix =
    IsBehindByte (λ byte. (byte ≡ 98) ⊎ (byte ≡ 99)) text from at depth
IsBehind text from at depth (before.Raw marks) = IsRawUpTo text from at depth marks

-- ---- pieces

-- what stands in a string goes on up to a place; whether a backslash stands right before it
abbrev pub AreInStringUpTo : List ℕ → ℕ → ℕ → Bool → Type 0
AreInStringUpTo text from at false = AreInString text from at
AreInStringUpTo text from at true =
    (last : ℕ) × (at ≡ last + 1) × AreInString text from last × (slice_index text last ≡ 92)

-- a raw string goes on up to a place, and ends nowhere before
pub record IsInRaw (text : List ℕ) (from at depth marks : ℕ) : Type 0 where
  pub start : ℕ
  pub quote : ℕ
  pub code : IsRustCode text from start depth
  pub begins : BeginsRaw text start quote marks
  pub behind : quote < at
  pub first : (k : ℕ) → k < at → quote < k → ¬ IsRawEnd text k marks

-- a quote may end it, behind which some of as many `#` stand
pub record IsInRawEnd (text : List ℕ) (from at depth marks left : ℕ) : Type 0 where
  pub last : ℕ
  pub had : ℕ
  pub before : IsInRaw text from last depth marks
  pub is : slice_index text last ≡ 34
  pub are : AreMarks text (last + 1) had
  pub at_is : at ≡ last + 1 + had
  pub all : had + left ≡ marks
  pub some : 0 < left

-- a character goes on up to a place; whether a lifetime may begin so
pub record IsInCharacter (text : List ℕ) (from at depth : ℕ) (name : Bool) : Type 0 where
  pub start : ℕ
  pub code : IsRustCode text from start depth
  pub opens : slice_index text start ≡ 39
  pub no_quote : slice_index text (start + 1) ≢ 39
  pub no_feed : slice_index text (start + 1) ≢ 10
  pub no_backslash : slice_index text (start + 1) ≢ 92
  pub behind : start + 2 ≤ at
  pub on : (k : ℕ) → k < at → start + 2 ≤ k → goes_on (slice_index text k) ≡ true
  pub word : name ≡ true → is_word_byte (slice_index text (start + 1)) ≡ true
  pub no_digit : name ≡ true → is_ascii_digit (slice_index text (start + 1)) ≡ false

-- one that begins with a backslash goes on up to a place behind the byte that this takes
pub record IsInEscape (text : List ℕ) (from at depth : ℕ) : Type 0 where
  pub start : ℕ
  pub code : IsRustCode text from start depth
  pub opens : slice_index text start ≡ 39
  pub backslash : slice_index text (start + 1) ≡ 92
  pub no_feed : slice_index text (start + 2) ≢ 10
  pub behind : start + 3 ≤ at
  pub each : (k : ℕ) → k < at → start + 3 ≤ k
      → (slice_index text k ≢ 39) × (slice_index text k ≢ 10)

-- the same, or up to the place right behind the backslash
abbrev pub IsEscapeUpTo : List ℕ → ℕ → ℕ → ℕ → Bool → Type 0
IsEscapeUpTo text from at depth false = IsInEscape text from at depth
IsEscapeUpTo text from at depth true =
    (start : ℕ) × (at ≡ start + 2) × IsRustCode text from start depth
    × (slice_index text start ≡ 39) × (slice_index text (start + 1) ≡ 92)

-- a comment up to the end of its line goes on up to a place
pub record IsInLine (text : List ℕ) (from at depth : ℕ) : Type 0 where
  pub start : ℕ
  pub code : IsRustCode text from start depth
  pub opens : IsPair text start 47 47
  pub behind : start + 2 ≤ at
  pub first : (k : ℕ) → k < at → start + 2 ≤ k → slice_index text k ≢ 10

-- comments go on up to a byte of a class, which stands right before a place
abbrev pub AreBehindByte : (ℕ → Type 0) → List ℕ → ℕ → ℕ → ℕ → Type 0
AreBehindByte Class text start at levels =
    (last : ℕ) × (at ≡ last + 1) × AreComments text start last levels × Class (slice_index text last)

-- comments go on up to a place
abbrev pub AreCommentsUpTo : List ℕ → ℕ → ℕ → ℕ → Half → Type 0
AreCommentsUpTo text start at levels half.Nothing = AreComments text start at levels
AreCommentsUpTo text start at levels half.Slash =
    AreBehindByte (λ byte. byte ≡ 47) text start at levels
AreCommentsUpTo text start at levels half.Star =
    AreBehindByte (λ byte. byte ≡ 42) text start at levels

-- a piece goes on up to a place
abbrev pub IsInPiece : List ℕ → ℕ → ℕ → ℕ → Piece → Type 0
IsInPiece text from at depth (piece.Text taken) =
    (start : ℕ) × IsRustCode text from start depth × (slice_index text start ≡ 34)
    × AreInStringUpTo text (start + 1) at taken
IsInPiece text from at depth (piece.Raw marks) = IsInRaw text from at depth marks
IsInPiece text from at depth (piece.RawEnd marks left) = IsInRawEnd text from at depth marks left
IsInPiece text from at depth piece.Quote = IsBehindByte (λ byte. byte ≡ 39) text from at depth
IsInPiece text from at depth (piece.Quoted name) = IsInCharacter text from at depth name
IsInPiece text from at depth (piece.Escape taken) = IsEscapeUpTo text from at depth taken
IsInPiece text from at depth piece.Line = IsInLine text from at depth
IsInPiece text from at depth (piece.Block levels half) =
    (start : ℕ) × IsRustCode text from start depth × (0 < levels) × (levels ≤ at)
    × AreCommentsUpTo text start at levels half

-- ---- both

-- what was read from one place up to another, where so many braces are open
abbrev pub IsWithin : List ℕ → ℕ → ℕ → ℕ → Within → Type 0
IsWithin text from at depth (within.Code before) = IsBehind text from at depth before
IsWithin text from at depth (within.Piece piece) = IsInPiece text from at depth piece

-- a byte that stands within one thing leads on to another
abbrev pub LeadsOn : ℕ → Within → Within → Type 0
LeadsOn byte old new =
    (text : List ℕ) (from at depth : ℕ) → at < 2 ^ 64 - 1 → slice_index text at ≡ byte
    → IsWithin text from at depth old → IsWithin text from (at + 1) depth new

-- a byte that stands within one thing stands within another one as well
abbrev pub Stays : ℕ → Within → Within → Type 0
Stays byte old new =
    (text : List ℕ) (from at depth : ℕ) → slice_index text at ≡ byte
    → IsWithin text from at depth old → IsWithin text from at depth new

-- code was read up to a place
pub record IsRustCodeUpTo (text : List ℕ) (from at : ℕ) (reader : RustReader) : Type 0 where
  pub is : IsWithin text from at reader.depth reader.within
  pub depth : reader.depth ≤ at

-- it goes on behind that place, or else ends there
abbrev pub Takes : List ℕ → ℕ → ℕ → Option RustReader → Type 0
Takes text from at None = EndsRustCode text from (at + 1)
Takes text from at (Some reader) = IsRustCodeUpTo text from (at + 1) reader

-- a byte of code itself is taken
abbrev pub TakesByte : ℕ → ℕ → Before → RustReader → Option RustReader → Type 0
TakesByte at byte before reader found =
    (text : List ℕ) (from : ℕ) → slice_index text at ≡ byte
    → IsRustCodeUpTo text from at (record reader { within = within.Code before })
    → Takes text from at found
