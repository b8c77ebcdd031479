-- what stands in quotes, as it is read up to a place within it
use Rattle.std.specs.Prelude.{◌≡◌, ◌≢◌, ℕ, ◌+◌, ◌-◌, ◌^◌, Bool, true, false, List, length, min, slice_index}
use Rattle.lryacc.specs.declared.lexemes.LexemeKind.{LexemeKind}
use Rattle.lryacc.specs.declared.lexemes.LexemeKind.TheVariants as kind
use Rattle.lryacc.specs.declared.quotes.Quoted.{Quoted}
use Rattle.lryacc.specs.GrmtoolsQuotes.{AreParts}
use Rattle.lryacc.specs.Quotes.{AreBytesIn, AreQuoted}

-- the number that something is; where it is no number of 32 bits, the greatest of these in its place
pub record IsCapped (number : ℕ) (Is : ℕ → Type 0) : Type 0 where
  pub exact : ℕ
  pub is : Is exact
  pub capped : number ≡ min exact (2 ^ 32 - 1)

-- bytes between quotes that are read up to a place: so many, and the last of them, if there is one
pub record AreBytesUpTo (quote : ℕ) (text : List ℕ) (start at number last : ℕ) : Type 0 where
  pub bytes : List ℕ
  pub are : AreBytesIn quote text start at bytes
  pub number_is : number ≡ length bytes
  pub last_is : last ≡ slice_index bytes (number - 1)

-- all of them are read, with both quotes
pub record AreRead (quote : ℕ) (text : List ℕ) (start : ℕ) (found : Quoted) : Type 0 where
  pub bytes : List ℕ
  pub are : AreQuoted quote bytes text start found.end
  pub number : found.bytes ≡ length bytes
  pub last : found.last ≡ slice_index bytes (found.bytes - 1)

-- ---- of grmtools

-- whether what stands in quotes has quotes of its own
abbrev pub has_quote : LexemeKind → Bool
has_quote kind.QuotedText = true
has_quote _ = false

-- parts that are read up to a place, and the byte before it, a space in place of one behind a backslash
pub data ArePartsUpTo (quote : ℕ) (text : List ℕ) (start : ℕ) (has : Bool) : ℕ → ℕ → Type 0 where
  -- no part goes on behind the place
  whole : {at before : ℕ} → before ≢ 92 → AreParts quote text start has at
      → ArePartsUpTo quote text start has at before
  -- a backslash, behind which a byte belongs to it
  half : {at : ℕ} → AreParts quote text start has at → slice_index text at ≡ 92
      → ArePartsUpTo quote text start has (at + 1) 92
