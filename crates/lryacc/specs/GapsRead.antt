-- gaps that are read up to a place within them
use Rattle.std.specs.Prelude.{◌≡◌, ◌≢◌, ℕ, ◌+◌, ◌-◌, ◌<◌, ◌≤◌, Bool, true, false, List, Option, Some, None, Result, Ok, Err, length, min, slice_index}
use Rattle.lryacc.specs.declared.dialects.Dialect.{Dialect}
use Rattle.lryacc.specs.declared.dialects.Dialect.TheVariants.{Bison, Grmtools}
use Rattle.lryacc.specs.declared.faults.Fault.{Fault}
use Rattle.lryacc.specs.declared.gaps.Within.{Within}
use Rattle.lryacc.specs.declared.gaps.Within.TheVariants as within
use Rattle.lryacc.specs.Comments.{IsBlock, IsPair}
use Rattle.lryacc.specs.Gaps.{BeginsLine, IsGap, IsLineMark, is_blank, is_in_line}
use Rattle.lryacc.specs.Words.{IsRun}

-- what begins with the byte at a place
abbrev pub BeginsGap : Dialect → List ℕ → ℕ → Within → Type 0
BeginsGap dialect text at within.Gap = is_blank dialect (slice_index text at) ≡ true
BeginsGap dialect text at (within.Slash opened) = (opened ≡ at) × (slice_index text at ≡ 47)
BeginsGap dialect text at within.Line = (dialect ≡ Bison) × IsLineMark text at × (slice_index text at ≡ 35)
BeginsGap dialect text at (within.Block opened star) = ⊥

-- a line that belongs to a gap goes on up to a place
pub record IsInLine (dialect : Dialect) (text : List ℕ) (from at : ℕ) : Type 0 where
  pub opened : ℕ
  pub ordered : opened ≤ at
  pub gap : IsGap dialect text from opened
  pub begins : BeginsLine dialect text opened
  pub each : (k : ℕ) → opened ≤ k → k < at → is_in_line (slice_index text k) ≡ true

-- a comment up to `*/` goes on up to a place; whether a `*` of it stands before that
pub record IsInBlock (dialect : Dialect) (text : List ℕ) (from at opened : ℕ) (star : Bool)
    : Type 0 where
  pub gap : IsGap dialect text from opened
  pub opens : IsPair text opened 47 42
  pub behind : opened + 2 ≤ at
  pub first : (k : ℕ) → opened + 2 ≤ k → k + 1 < at → ¬ IsPair text k 42 47
  pub star_is : star ≡ true → (opened + 2 < at) × (slice_index text (at - 1) ≡ 42)
  pub no_star : star ≡ false → opened + 2 < at → slice_index text (at - 1) ≢ 42

-- what was read of a gap from one place up to another
abbrev pub IsGapUpTo : Dialect → List ℕ → ℕ → ℕ → Within → Type 0
IsGapUpTo dialect text from at within.Gap = IsGap dialect text from at
IsGapUpTo dialect text from at (within.Slash opened) =
    IsGap dialect text from opened × (slice_index text opened ≡ 47) × (at ≡ opened + 1)
IsGapUpTo dialect text from at within.Line = IsInLine dialect text from at
IsGapUpTo dialect text from at (within.Block opened star) =
    IsInBlock dialect text from at opened star

-- ---- gaps of grmtools, and where they end

-- a byte with which no gap goes on
pub record IsNoGap (byte : ℕ) : Type 0 where
  pub no_blank : is_blank Grmtools byte ≡ false
  pub no_slash : byte ≢ 47

-- such a byte stands at a place
pub record EndsGap (text : List ℕ) (at : ℕ) : Type 0 where
  pub inside : at < length text
  pub is : IsNoGap (slice_index text at)

-- only blanks and comments stand from a place up to `end`
pub data IsGapBefore (text : List ℕ) (end : ℕ) : ℕ → Type 0 where
  nothing : {at : ℕ} → at ≡ end → IsGapBefore text end at
  blank : {at : ℕ} → is_blank Grmtools (slice_index text at) ≡ true
      → IsGapBefore text end (at + 1) → IsGapBefore text end at
  line : {at stop : ℕ} → IsPair text at 47 47 → IsRun is_in_line text at stop
      → IsGapBefore text end (min (stop + 1) (length text)) → IsGapBefore text end at
  block : {at last : ℕ} → IsBlock text at last → IsGapBefore text end (last + 2)
      → IsGapBefore text end at

-- behind a place there is the rest of a line, and then such a gap
pub record IsLineBefore (text : List ℕ) (end at : ℕ) : Type 0 where
  pub stop : ℕ
  pub run : IsRun is_in_line text at stop
  pub rest : IsGapBefore text end (min (stop + 1) (length text))

-- behind a place there is the rest of a comment, and then such a gap; whether a `*` of it stands before that
pub record IsBlockBefore (text : List ℕ) (end at opened : ℕ) (star : Bool) : Type 0 where
  pub last : ℕ
  pub is : IsBlock text opened last
  pub behind : opened + 2 ≤ at
  pub on : at ≤ last + 1
  pub star_is : star ≡ true → (opened + 2 < at) × (slice_index text (at - 1) ≡ 42)
  pub no_star : star ≡ false → opened + 2 < at → slice_index text (at - 1) ≢ 42
  pub rest : IsGapBefore text end (last + 2)

-- what is still to be read of a gap up to `end`
abbrev pub IsLeft : List ℕ → ℕ → ℕ → Within → Type 0
IsLeft text end at within.Gap = IsGapBefore text end at
IsLeft text end at (within.Slash opened) =
    (at ≡ opened + 1) × (slice_index text opened ≡ 47) × IsGapBefore text end opened
IsLeft text end at within.Line = IsLineBefore text end at
IsLeft text end at (within.Block opened star) = IsBlockBefore text end at opened star

-- what is behind the byte at a place: more of it, or this is its end
abbrev pub IsLeftBehind : List ℕ → ℕ → ℕ → Result (Option Within) Fault → Type 0
IsLeftBehind text end at (Ok None) = at ≡ end
IsLeftBehind text end at (Ok (Some next)) = IsLeft text end (at + 1) next
IsLeftBehind text end at (Err fault) = ⊥
