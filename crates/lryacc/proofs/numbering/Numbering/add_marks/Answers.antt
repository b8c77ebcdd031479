use Rattle.std.proofs.Common.{◌<◌, ℕ, List, [], length, ap, refl, subst, sym}
use Rattle.std.proofs.lemmas.List.{take_all, take_more}
use Rattle.lryacc.specs.declared.lexemes.Lexeme.{Lexeme}
use Rattle.lryacc.specs.declared.meaning.Meaning.{Meaning}
use Rattle.lryacc.specs.BodyProductions.{AreRelated, IsMarkOf}
use Rattle.lryacc.specs.BodyProductions.AreRelated.{none}
use Rattle.lryacc.specs.Numbered.{names_of}
use Rattle.lryacc.proofs.MarksAdded.{mark-kept, marks-several, related-weaker}
use Rattle.lryacc.proofs.Numbered.{adds_again, adds_none}
use Rattle.lryacc.proofs.ProductionsAdded.{related-more}
use Rattle.lryacc.proofs.numbering.Numbering.add_marks.Goals as goal

pub loop-start-init : goal.loop-start-init
loop-start-init c = record {
  added = adds_none refl;
  marks = subst (λ (marks : List ℕ). AreRelated (IsMarkOf (names_of c.args.self.now)) [] marks) (sym c.new-marks.ensures.items) none;
}

pub loop-start-preserved : goal.loop-start-preserved
loop-start-preserved c =
    let starts = c.args.starts.now in
    let below : c.loop-start.start-index < length starts = c.loop-start-test.true in
    let one = c.in_ok-mark.ensures in
    let now = c.loop-start.self in
    let new = c.mark.new.self in
    record {
      added = adds_again c.loop-start.invariant.added one.added;
      marks =
          related-more (IsMarkOf (names_of new)) _ _ _ _ _ _ (take_more starts c.loop-start.start-index _ below) c.in_ok-push.ensures.items
          (related-weaker (λ start mark h. mark-kept (names_of now) (names_of new) start mark (ap (λ (m : Meaning). m.symbols.text.now) one.added.meaning) (ap (λ (m : Meaning). m.symbols.dialect) one.added.meaning) one.kept h) c.loop-start.invariant.marks)
          one.mark;
    }

pub returns-clause-marks : goal.returns-clause-marks
returns-clause-marks c =
    let all = subst (λ (xs : List Lexeme). AreRelated (IsMarkOf (names_of c.loop-start.self)) xs c.loop-start.marks.items) (take_all _ _ c.loop-start-test.false) c.loop-start.invariant.marks in
    marks-several _ _ _ c.if-starts-eq1.false all
