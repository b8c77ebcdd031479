-- gaps that are read byte by byte
use Rattle.std.proofs.Common.{◌≡◌, Option, Some, None, IfSome, ℕ, ◌+◌, ◌-◌, ◌<◌, inr, min, true, List, length, slice_index, refl, subst, sym, arith}
use Rattle.lryacc.specs.declared.dialects.Dialect.{Dialect}
use Rattle.lryacc.specs.declared.dialects.Dialect.TheVariants.{Bison, Grmtools}
use Rattle.lryacc.specs.declared.gaps.Within.{Within}
use Rattle.lryacc.specs.declared.gaps.Within.TheVariants as within
use Rattle.lryacc.specs.Comments.{IsBlock}
use Rattle.lryacc.specs.Gaps.{BeginsLine, IsGap, IsLineMark, is_in_line}
use Rattle.lryacc.specs.Gaps.IsGap.{blank, block, line}
use Rattle.lryacc.specs.GapsRead.{BeginsGap, IsGapUpTo, IsInBlock, IsInLine}
use Rattle.lryacc.specs.Words.{IsRun}

mark : (dialect : Dialect) (text : List ℕ) (at : ℕ) → dialect ≡ Bison → IsLineMark text at → BeginsLine dialect text at
mark Bison text at is line_mark = inr line_mark
mark Grmtools text at is line_mark = absurd (cc)

in_line : (byte other : ℕ) → byte ≡ other → is_in_line other ≡ true → is_in_line byte ≡ true
in_line byte other same is = rw same is

-- `#line`
pub mark-line : (dialect : Dialect) (text : List ℕ) (from at : ℕ) → IsGap dialect text from at
    → dialect ≡ Bison → IsLineMark text at → slice_index text at ≡ 35 → IsInLine dialect text from (at + 1)
mark-line dialect text from at gap bison is hash =
    record {
      opened = at;
      ordered = omega arith;
      gap = gap;
      begins = mark dialect text at bison is;
      each = λ k low high.
          let same : k ≡ at = omega arith in
          in_line _ 35 (rw same hash) refl;
    }

-- a line ends with a line feed
pub line-ends : (dialect : Dialect) (text : List ℕ) (from at : ℕ) → IsInLine dialect text from at
    → at < length text → slice_index text at ≡ 10 → IsGap dialect text from (at + 1)
line-ends dialect text from at up inside feed =
    let run : IsRun is_in_line text up.opened at = record { ordered = up.ordered; inside = omega arith; each = up.each; ends = λ _. rw feed refl } in
    let end : min (at + 1) (length text) ≡ at + 1 = omega arith in
    subst (IsGap dialect text from) end (line up.gap up.begins run)

-- or with the text
pub line-at_end : (dialect : Dialect) (text : List ℕ) (from : ℕ) → IsInLine dialect text from (length text)
    → IsGap dialect text from (length text)
line-at_end dialect text from up =
    let run : IsRun is_in_line text up.opened (length text) =
    record { ordered = up.ordered; inside = omega arith; each = up.each; ends = λ more. absurd (omega arith) } in
    let end : min (length text + 1) (length text) ≡ length text = omega arith in
    subst (IsGap dialect text from) end (line up.gap up.begins run)

-- a comment ends with `*/`
pub block-ends : (dialect : Dialect) (text : List ℕ) (from at opened : ℕ)
    → IsInBlock dialect text from at opened true → slice_index text at ≡ 47 → IsGap dialect text from (at + 1)
block-ends dialect text from at opened up slash =
    let star = up.star_is refl in
    let long : opened + 2 < at = star.0 in
    let here : (at - 1) + 1 ≡ at = omega arith in
    let end : (at - 1) + 2 ≡ at + 1 = omega arith in
    let is : IsBlock text opened (at - 1) =
    record {
      opens = up.opens;
      behind = omega arith;
      closes = record { one = star.1; other = rw here slash };
      first = λ k low high. up.first k low (omega arith);
    } in
    subst (IsGap dialect text from) end (block up.gap is)

-- what begins behind a gap goes on from it
pub gap-begins : (dialect : Dialect) (text : List ℕ) (at : ℕ) (found : Option Within)
    → IfSome found (BeginsGap dialect text at)
    → IfSome found (λ next. (from : ℕ) → IsGap dialect text from at → IsGapUpTo dialect text from (at + 1) next)
gap-begins dialect text at None begins = tt
gap-begins dialect text at (Some within.Gap) begins = λ from gap. blank gap begins
gap-begins dialect text at (Some (within.Slash opened)) begins = λ from gap.
    (subst (IsGap dialect text from) (sym begins.0) gap, rw begins.0 begins.1, rw begins.0 refl)
gap-begins dialect text at (Some within.Line) begins = λ from gap.
    mark-line dialect text from at gap begins.0 begins.1 begins.2
gap-begins dialect text at (Some (within.Block opened star)) begins = absurd begins
