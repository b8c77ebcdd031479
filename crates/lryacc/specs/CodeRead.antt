-- code that is read up to a place within it
use Rattle.std.specs.Prelude.{◌≡◌, ◌≢◌, ℕ, ◌+◌, ◌-◌, ◌<◌, ◌≤◌, Bool, true, false, Option, None, Some, List, length, slice_index}
use Rattle.lryacc.specs.declared.code.CodeReader.{CodeReader}
use Rattle.lryacc.specs.declared.code.Ending.{Ending}
use Rattle.lryacc.specs.declared.code.Ending.TheVariants.{PrologueMark}
use Rattle.lryacc.specs.declared.code.Escape.{Escape}
use Rattle.lryacc.specs.declared.code.Escape.TheVariants as escape
use Rattle.lryacc.specs.declared.code.Mark.{Mark}
use Rattle.lryacc.specs.declared.code.Mark.TheVariants as mark
use Rattle.lryacc.specs.declared.code.Within.{Within}
use Rattle.lryacc.specs.declared.code.Within.TheVariants as within
use Rattle.lryacc.specs.Code.{AreInQuotation, EndsCode, IsCode, IsQuote, is_single}
use Rattle.lryacc.specs.Comments.{IsBackslash, IsPair, IsSpliced}

-- the two bytes of a mark
abbrev pub IsMark : Ending → Mark → ℕ → ℕ → Type 0
IsMark ending mark.Line first second = (first ≡ 47) × (second ≡ 47)
IsMark ending mark.Block first second = (first ≡ 47) × (second ≡ 42)
IsMark ending mark.Shift first second = (first ≡ 60) × (second ≡ 60)
IsMark ending mark.Opens first second = (first ≡ 60) × (second ≡ 37)
IsMark ending mark.Closes first second = (first ≡ 37) × (second ≡ 62)
IsMark ending mark.Ends first second = (ending ≡ PrologueMark) × (first ≡ 37) × (second ≡ 125)

-- they are such a byte as may stand before, and another one
abbrev pub IsMarkBehind : Ending → Mark → Option ℕ → ℕ → Type 0
IsMarkBehind ending mark None second = ⊥
IsMarkBehind ending mark (Some first) second = IsMark ending mark first second

-- code up to a byte that may begin a mark of two bytes with the one at a place
pub record IsPending (ending : Ending) (text : List ℕ) (from at first opened closed : ℕ)
    : Type 0 where
  pub last : ℕ
  pub at_is : at ≡ last + 1
  pub code : IsCode ending text from last opened closed
  pub first_is : slice_index text last ≡ first
  pub single : is_single first ≡ false

-- a backslash between quotes stands before a place, and only blanks between them
pub record IsEscape (quote : ℕ) (text : List ℕ) (from at : ℕ) : Type 0 where
  pub backslash : ℕ
  pub before : AreInQuotation quote text from backslash
  pub is : IsBackslash text backslash at

-- what stands between quotes goes on up to a place
abbrev pub AreInQuotationUpTo : ℕ → List ℕ → ℕ → ℕ → Escape → Type 0
AreInQuotationUpTo quote text from at escape.None = AreInQuotation quote text from at
AreInQuotationUpTo quote text from at escape.Begun =
    (up : IsEscape quote text from at) × (at ≡ up.backslash + 1)
AreInQuotationUpTo quote text from at escape.Blanks =
    (up : IsEscape quote text from at) × (up.backslash + 2 ≤ at)

-- whether a backslash of a comment stands before a place, and only blanks between them
abbrev pub IsSplicedUpTo : List ℕ → ℕ → ℕ → Escape → Type 0
IsSplicedUpTo text from at escape.None = ¬ IsSpliced text from at
IsSplicedUpTo text from at _ = IsSpliced text from at

-- a comment up to the end of its line goes on up to a place
pub record IsLineUpTo (text : List ℕ) (start at : ℕ) (escape : Escape) : Type 0 where
  pub opens : IsPair text start 47 47
  pub behind : start + 2 ≤ at
  pub first : (k : ℕ) → k < at → start + 2 ≤ k → slice_index text k ≡ 10
      → IsSpliced text (start + 2) k
  pub spliced : IsSplicedUpTo text (start + 2) at escape

-- a comment up to `*/` goes on up to a place; whether a `*` of it stands before that
pub record IsBlockUpTo (text : List ℕ) (start at : ℕ) (star : Bool) : Type 0 where
  pub opens : IsPair text start 47 42
  pub behind : start + 2 ≤ at
  pub first : (k : ℕ) → start + 2 ≤ k → k + 1 < at → ¬ IsPair text k 42 47
  pub star_is : star ≡ true → (start + 2 < at) × (slice_index text (at - 1) ≡ 42)
  pub no_star : star ≡ false → start + 2 < at → slice_index text (at - 1) ≢ 42

-- what was read from one place up to another, where so many braces were opened and closed
abbrev pub IsWithin : Ending → List ℕ → ℕ → ℕ → ℕ → ℕ → Within → Type 0
IsWithin ending text from at opened closed (within.Code None) =
    IsCode ending text from at opened closed
IsWithin ending text from at opened closed (within.Code (Some first)) =
    IsPending ending text from at first opened closed
IsWithin ending text from at opened closed (within.Quotes quote start escape) =
    IsCode ending text from start opened closed × IsQuote quote text start
    × AreInQuotationUpTo quote text (start + 1) at escape
IsWithin ending text from at opened closed (within.Line escape) =
    (start : ℕ) × IsCode ending text from start opened closed × IsLineUpTo text start at escape
IsWithin ending text from at opened closed (within.Block start star) =
    IsCode ending text from start opened closed × IsBlockUpTo text start at star

-- a byte that stands within one thing leads on to another
abbrev pub LeadsOn : ℕ → Within → Within → Type 0
LeadsOn byte before after =
    (ending : Ending) (text : List ℕ) (from at opened closed : ℕ) → at < length text
    → slice_index text at ≡ byte → IsWithin ending text from at opened closed before
    → IsWithin ending text from (at + 1) opened closed after

-- code was read up to a place
pub record IsCodeUpTo (ending : Ending) (text : List ℕ) (from at : ℕ) (reader : CodeReader)
    : Type 0 where
  pub is : IsWithin ending text from at reader.opened reader.closed reader.within
  pub opened : reader.opened ≤ at
  pub closed : reader.closed ≤ at

-- it goes on behind that place, or else ends there
abbrev pub Takes : Ending → List ℕ → ℕ → ℕ → Option CodeReader → Type 0
Takes ending text from at None = EndsCode ending text from (at + 1)
Takes ending text from at (Some reader) = IsCodeUpTo ending text from (at + 1) reader

-- a byte of code itself is taken, behind one that may begin a mark
abbrev pub TakesByte : Ending → ℕ → ℕ → Option ℕ → CodeReader → Option CodeReader → Type 0
TakesByte ending at byte before reader found =
    (text : List ℕ) (from : ℕ) → at < length text → slice_index text at ≡ byte
    → IsCodeUpTo ending text from at (record reader { within = within.Code before })
    → Takes ending text from at found

-- the second byte of a mark is taken
abbrev pub TakesMark : ℕ → Mark → CodeReader → Option CodeReader → Type 0
TakesMark at mark reader found =
    (ending : Ending) (text : List ℕ) (from first : ℕ) → at < length text
    → IsMark ending mark first (slice_index text at)
    → IsCodeUpTo ending text from at (record reader { within = within.Code (Some first) })
    → Takes ending text from at found
