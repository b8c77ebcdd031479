-- where gaps of grmtools end: before the first byte behind them with which none goes on
use Rattle.std.proofs.Common.{◌≡◌, ℕ, ◌+◌, ◌<◌, ◌≤◌, List, true, false, Option, None, Some, Ok, IfSome, IfNone, length, min, slice_index, refl, ap, sym, ◌∙◌, subst, inl, inr, arith}
use Rattle.std.proofs.Math.ListN.{get_or-eq_default}
use Rattle.std.proofs.lemmas.Bool.{cases_eq, cases_lt, false≢true}
use Rattle.lryacc.specs.declared.dialects.Dialect.TheVariants.{Bison, Grmtools}
use Rattle.lryacc.specs.declared.gaps.Within.{Within}
use Rattle.lryacc.specs.declared.gaps.Within.TheVariants as within
use Rattle.lryacc.specs.Gaps.{IsGap, is_blank, is_in_line}
use Rattle.lryacc.specs.GapsRead.{BeginsGap, EndsGap, IsBlockBefore, IsGapBefore, IsLeft, IsLeftBehind, IsLineBefore, IsNoGap}

-- a gap up to a place, and one from there on
gap-on : {text : List ℕ} {from at end : ℕ} → IsGap Grmtools text from at → IsGapBefore text end at → IsGapBefore text end from
gap-on IsGap.nothing h = h
gap-on (IsGap.blank gap is) h = gap-on gap (IsGapBefore.blank is h)
gap-on (IsGap.line gap pair run) h = gap-on gap (IsGapBefore.line pair run h)
gap-on (IsGap.block gap is) h = gap-on gap (IsGapBefore.block is h)

pub gap-before : {text : List ℕ} {from end : ℕ} → IsGap Grmtools text from end → IsGapBefore text end from
gap-before gap = gap-on gap (IsGapBefore.nothing refl)

no-blank : (byte : ℕ) → byte ≡ 47 → is_blank Grmtools byte ≡ true → ⊥
no-blank byte is blank = false≢true (sym (ap (is_blank Grmtools) is) ∙ blank)

is-in-line : (byte other : ℕ) → byte ≡ other → is_in_line other ≡ true → is_in_line byte ≡ false → ⊥
is-in-line byte other is in_line not_so = false≢true (sym not_so ∙ ap is_in_line is ∙ in_line)

-- nothing is behind a text
pub behind : (text : List ℕ) (at : ℕ) → length text ≤ at → slice_index text at ≡ 0
behind text at none = get_or-eq_default text 0 none

pub given-none : (P Q : Type 0) (found : Option Within) → P → IfNone found (P → Q) → IfNone found Q
given-none P Q None p f = f p
given-none P Q (Some next) p f = f

-- ---- what the next byte brings

module _ (text : List ℕ) (end at : ℕ) (inside : at < length text) (ends : EndsGap text end) where
  -- no gap begins with it: this is the end
  at-end : IsNoGap (slice_index text at) → IsGapBefore text end at → at ≡ end
  at-end none (IsGapBefore.nothing same) = same
  at-end none (IsGapBefore.blank is rest) = absurd (false≢true (sym none.no_blank ∙ is))
  at-end none (IsGapBefore.line pair run rest) = absurd (none.no_slash pair.one)
  at-end none (IsGapBefore.block is rest) = absurd (none.no_slash is.opens.one)

  -- none goes on at its end
  no-blank_here : at ≡ end → is_blank Grmtools (slice_index text at) ≡ true → ⊥
  no-blank_here same is = false≢true (sym ends.is.no_blank ∙ ap (λ (n : ℕ). is_blank Grmtools (slice_index text n)) (sym same) ∙ is)

  -- a blank
  over-blank : is_blank Grmtools (slice_index text at) ≡ true → IsGapBefore text end at → IsGapBefore text end (at + 1)
  over-blank is (IsGapBefore.nothing same) = absurd (no-blank_here same is)
  over-blank is (IsGapBefore.blank also rest) = rest
  over-blank is (IsGapBefore.line pair run rest) = absurd (no-blank (slice_index text at) pair.one is)
  over-blank is (IsGapBefore.block opens rest) = absurd (no-blank (slice_index text at) opens.opens.one is)

  pub begins : (found : Option Within) → IfSome found (BeginsGap Grmtools text at) → IfNone found (IsNoGap (slice_index text at)) → IsGapBefore text end at → IsLeftBehind text end at (Ok found)
  begins None some none h = at-end none h
  begins (Some within.Gap) some none h = over-blank some h
  begins (Some (within.Slash opened)) some none h =
      let same : at ≡ opened = sym some.0 in (
        ap (λ n. n + 1) same,
        ap (slice_index text) some.0 ∙ some.1,
        subst (IsGapBefore text end) same h,
      )
  begins (Some within.Line) some none h = let other : Grmtools ≡ Bison = some.0 in absurd (cc)
  begins (Some (within.Block opened star)) some none h = absurd some

  -- behind a `/`
  module _ (opened : ℕ) (next : at ≡ opened + 1) (slash : slice_index text opened ≡ 47) where
    not-here : opened ≡ end → ⊥
    not-here same = ends.is.no_slash (ap (slice_index text) (sym same) ∙ slash)

    here : slice_index text (opened + 1) ≡ slice_index text at
    here = ap (slice_index text) (sym next)

    pub second : slice_index text at ≡ 47 → IsGapBefore text end opened → IsLineBefore text end (at + 1)
    second is (IsGapBefore.nothing same) = absurd (not-here same)
    second is (IsGapBefore.blank blank rest) = absurd (no-blank (slice_index text opened) slash blank)
    second is (IsGapBefore.line {stop = stop} pair run rest) =
        let ordered = run.ordered in
        let not_first : stop ≡ opened → ⊥ = λ same. is-in-line (slice_index text stop) 47 (ap (slice_index text) same ∙ slash) refl (run.ends (omega (arith, same, inside, next))) in
        let not_second : stop ≡ at → ⊥ = λ same. is-in-line (slice_index text stop) 47 (ap (slice_index text) same ∙ is) refl (run.ends (omega (arith, same, inside))) in
        let far : at + 1 ≤ stop = elim (cases_lt at stop) [
          | inl more ↦ omega (arith, more)
          | inr less ↦ elim (cases_eq stop at) [
            | inl same ↦ absurd (not_second same)
            | inr other ↦ absurd (not_first (omega (arith, less, other, ordered, next)))
          ]
        ] in
        record {
          stop = stop;
          run = record { ordered = far; inside = run.inside; each = λ k low high. run.each k (omega (arith, low, next)) high; ends = run.ends };
          rest = rest;
        }
    second is (IsGapBefore.block opens rest) =
        let star : slice_index text at ≡ 42 = sym here ∙ opens.opens.other in
        let no : 47 ≡ 42 = sym is ∙ star in
        absurd (omega (arith, no))

    pub star : slice_index text at ≡ 42 → IsGapBefore text end opened → IsBlockBefore text end (at + 1) opened false
    star is (IsGapBefore.nothing same) = absurd (not-here same)
    star is (IsGapBefore.blank blank rest) = absurd (no-blank (slice_index text opened) slash blank)
    star is (IsGapBefore.line pair run rest) =
        let other : slice_index text at ≡ 47 = sym here ∙ pair.other in
        let no : 42 ≡ 47 = sym is ∙ other in
        absurd (omega (arith, no))
    star is (IsGapBefore.block {last = last} opens rest) =
        let far = opens.behind in
        record {
          last = last;
          is = opens;
          behind = omega (arith, next);
          on = omega (arith, next, far);
          star_is = λ no. absurd (false≢true no);
          no_star = λ no more. absurd (omega (arith, next, more));
          rest = rest;
        }

-- ---- behind the text nothing is left

module _ (text : List ℕ) (end at : ℕ) (none : length text ≤ at) (ends : EndsGap text end) where
  no-gap : IsGapBefore text end at → ⊥
  no-gap (IsGapBefore.nothing same) = let inside = ends.inside in omega (arith, inside, none, same)
  no-gap (IsGapBefore.blank is rest) = false≢true (sym (ap (is_blank Grmtools) (behind text at none)) ∙ is)
  no-gap (IsGapBefore.line pair run rest) = let no : 0 ≡ 47 = sym (behind text at none) ∙ pair.one in omega (arith, no)
  no-gap (IsGapBefore.block is rest) = let no : 0 ≡ 47 = sym (behind text at none) ∙ is.opens.one in omega (arith, no)

behind-slash : (text : List ℕ) (end opened : ℕ) → EndsGap text end → length text ≡ opened + 1 → slice_index text opened ≡ 47 → IsGapBefore text end opened → ⊥
behind-slash text end opened ends long slash (IsGapBefore.nothing same) = ends.is.no_slash (ap (slice_index text) (sym same) ∙ slash)
behind-slash text end opened ends long slash (IsGapBefore.blank blank rest) = no-blank (slice_index text opened) slash blank
behind-slash text end opened ends long slash (IsGapBefore.line pair run rest) =
    let no : 0 ≡ 47 = sym (behind text (opened + 1) (omega (arith, long))) ∙ pair.other in
    omega (arith, no)
behind-slash text end opened ends long slash (IsGapBefore.block is rest) =
    let no : 0 ≡ 42 = sym (behind text (opened + 1) (omega (arith, long))) ∙ is.opens.other in
    omega (arith, no)

-- what is left where the text ends
pub left-behind : (text : List ℕ) (end : ℕ) (state : Within) → EndsGap text end → IsLeft text end (length text) state → ⊥
left-behind text end within.Gap ends h = no-gap text end (length text) (omega arith) ends h
left-behind text end (within.Slash opened) ends h = behind-slash text end opened ends h.0 h.1 h.2
left-behind text end within.Line ends h =
    let ordered = h.run.ordered in
    let inside = h.run.inside in
    no-gap text end (min (h.stop + 1) (length text)) (omega (arith, ordered, inside)) ends h.rest
left-behind text end (within.Block opened star) ends h =
    let on = h.on in
    let no : 0 ≡ 47 = sym (behind text (h.last + 1) (omega (arith, on))) ∙ h.is.closes.other in
    omega (arith, no)
