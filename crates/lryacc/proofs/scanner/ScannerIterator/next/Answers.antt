use Rattle.std.proofs.Common.{◌≡◌, ◌∙◌, ◌+◌, ◌<◌, ◌≤◌, ◌⊎◌, ℕ, Bool, true, false, [], ◌∷◌, inl, inr, ap, length, subst, sym, refl, arith}
use Rattle.std.specs.Prelude.{if◌then◌else◌}
use Rattle.lryacc.specs.declared.lexemes.LexemeKind.{LexemeKind}
use Rattle.lryacc.specs.declared.places.Span.{Span}
use Rattle.lryacc.specs.declared.scanner.Scanner.{Scanner}
use Rattle.lryacc.specs.AllLexemes.{is_separator, separators}
use Rattle.lryacc.specs.Gaps.{IsGap}
use Rattle.lryacc.specs.Gaps.IsGap.{nothing}
use Rattle.lryacc.specs.Lexemes.{IsLexeme}
use Rattle.lryacc.specs.Scans.{IsNext, StandsAtEnd, StandsBehind}
use Rattle.lryacc.proofs.scanner.ScannerIterator.next.Goals as goal

-- a lexeme that is read behind a gap is the next one
next-one : (old new : Scanner) (kind : LexemeKind) (span : Span) (start end : ℕ) → span.start ≡ start → span.end ≡ end → old.at ≤ start → IsGap old.dialect old.text.now old.at start → start < end → end ≤ length old.text.now → IsLexeme old.dialect kind old.text.now start end → end ≤ new.at → (old.separators < 2 → new.separators ≡ old.separators + separators (record { kind = kind; span = span } ∷ [])) → StandsBehind old new record { kind = kind; span = span } ⊎ StandsAtEnd new record { kind = kind; span = span } → IsNext old new record { kind = kind; span = span }
next-one old new kind span start end begins ends on gap some inside is to counts reaches = record {
  from = omega arith;
  to = omega arith;
  is = record {
    some = omega arith;
    inside = omega arith;
    is =
        subst (IsLexeme old.dialect kind old.text.now span.start) (sym ends)
        (subst (λ at. IsLexeme old.dialect kind old.text.now at end) (sym begins) is);
  };
  gap = subst (IsGap old.dialect old.text.now old.at) (sym begins) gap;
  counts = counts;
  reaches = reaches;
}

-- how many separators a lexeme is
how-many : (kind : LexemeKind) (span : Span) (is : Bool) → is_separator kind ≡ is → separators (record { kind = kind; span = span } ∷ []) ≡ (if is then 1 else 0) + 0
how-many kind span is e = ap (λ (b : Bool). (if b then 1 else 0) + 0) e

pub returns-then-from-self-clause-steps : goal.returns-then-from-self-clause-steps
returns-then-from-self-clause-steps c =
    let old = c.args.self.now in
    record {
      text = refl;
      dialect = refl;
      on = omega arith;
      lexeme = tt;
      ends = subst (IsGap old.dialect old.text.now old.at) c.if-from-self.true nothing;
    }

pub returns-in_default-clause-steps : goal.returns-in_default-clause-steps
returns-in_default-clause-steps c =
    let gap = c.in-Ok.ensures in
    let read = c.in-Ok-lexeme_of.ensures in
    let span = c.new-span.ensures in
    let new = c.in_default.ensures in
    let is = sym c.is_separator.ensures ∙ c.if-is_separator.true in
    let one = how-many c.in-Ok-lexeme_of.found.0 c.new-span.result true is in
    record {
      text = new.text;
      dialect = new.dialect;
      on = omega (arith, gap.from, read.from, new.goes);
      lexeme =
          next-one c.args.self.now c.epilogue_fault.new.self c.in-Ok-lexeme_of.found.0 c.new-span.result c.in-Ok.start c.in-Ok-lexeme_of.found.1
          span.start span.end gap.from gap.gap read.from read.inside read.is new.goes
          (λ small. omega (arith, one, new.separators, c.saturating_add-self.ensures))
          (inr record { at = new.end ∙ ap (λ text. length text.now) (sym new.text); is = is; second = new.separators ∙ c.if-self-eq2.true });
      ends = tt;
    }

pub returns-else-self-eq2-clause-steps : goal.returns-else-self-eq2-clause-steps
returns-else-self-eq2-clause-steps c =
    let gap = c.in-Ok.ensures in
    let read = c.in-Ok-lexeme_of.ensures in
    let span = c.new-span.ensures in
    let is = sym c.is_separator.ensures ∙ c.if-is_separator.true in
    let one = how-many c.in-Ok-lexeme_of.found.0 c.new-span.result true is in
    record {
      text = refl;
      dialect = refl;
      on = omega (arith, gap.from, read.from);
      lexeme =
          next-one c.args.self.now _ c.in-Ok-lexeme_of.found.0 c.new-span.result c.in-Ok.start c.in-Ok-lexeme_of.found.1
          span.start span.end gap.from gap.gap read.from read.inside read.is (omega arith)
          (λ small. omega (arith, one, c.saturating_add-self.ensures))
          (inl record { at = sym span.end; before_second = λ small. omega (arith, c.if-self-eq2.false, c.saturating_add-self.ensures) });
      ends = tt;
    }

pub returns-else-is_separator-clause-steps : goal.returns-else-is_separator-clause-steps
returns-else-is_separator-clause-steps c =
    let gap = c.in-Ok.ensures in
    let read = c.in-Ok-lexeme_of.ensures in
    let span = c.new-span.ensures in
    let none = how-many c.in-Ok-lexeme_of.found.0 c.new-span.result false (sym c.is_separator.ensures ∙ c.if-is_separator.false) in
    record {
      text = refl;
      dialect = refl;
      on = omega (arith, gap.from, read.from);
      lexeme =
          next-one c.args.self.now _ c.in-Ok-lexeme_of.found.0 c.new-span.result c.in-Ok.start c.in-Ok-lexeme_of.found.1
          span.start span.end gap.from gap.gap read.from read.inside read.is (omega arith)
          (λ small. omega (arith, none))
          (inl record { at = sym span.end; before_second = λ small. small });
      ends = tt;
    }
