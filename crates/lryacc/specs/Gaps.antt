-- what stands between lexemes
use Rattle.std.specs.Prelude.{◌≡◌, ℕ, ◌+◌, ◌-◌, ◌⊎◌, ◌||◌, ◌==◌, not, Bool, true, List, codes, length, min, slice_index}
use Rattle.lryacc.specs.declared.dialects.Dialect.{Dialect}
use Rattle.lryacc.specs.declared.dialects.Dialect.TheVariants.{Bison, Grmtools}
use Rattle.lryacc.specs.Comments.{IsBlock, IsPair, is_white}
use Rattle.lryacc.specs.Words.{Are, IsRun}

-- whether a byte is a blank: a space, a tab, a line feed or a carriage return; for Bison, so are a vertical tab, a form feed and a
-- comma
abbrev pub is_blank : Dialect → ℕ → Bool
is_blank Bison byte = is_white byte || byte == 44
is_blank Grmtools byte = byte == 32 || (byte == 9 || (byte == 10 || byte == 13))

-- all but the line feed
abbrev pub is_in_line : ℕ → Bool
is_in_line byte = not (byte == 10)

-- a line begins with `#line `
pub record IsLineMark (text : List ℕ) (at : ℕ) : Type 0 where
  pub begins : (at ≡ 0) ⊎ (slice_index text (at - 1) ≡ 10)
  pub is : Are text at (at + 6) (codes "#line ")

-- where all up to the end of a line belongs to a gap: behind `//`, and for Bison also behind `#line `
abbrev pub BeginsLine : Dialect → List ℕ → ℕ → Type 0
BeginsLine Bison text at = IsPair text at 47 47 ⊎ IsLineMark text at
BeginsLine Grmtools text at = IsPair text at 47 47

-- only blanks, comments and lines with `#line` stand from one place up to another
pub data IsGap (dialect : Dialect) (text : List ℕ) (from : ℕ) : ℕ → Type 0 where
  nothing : IsGap dialect text from from
  blank : {at : ℕ} → IsGap dialect text from at → is_blank dialect (slice_index text at) ≡ true
      → IsGap dialect text from (at + 1)
  line : {at end : ℕ} → IsGap dialect text from at → BeginsLine dialect text at
      → IsRun is_in_line text at end → IsGap dialect text from (min (end + 1) (length text))
  block : {at last : ℕ} → IsGap dialect text from at → IsBlock text at last
      → IsGap dialect text from (last + 2)
