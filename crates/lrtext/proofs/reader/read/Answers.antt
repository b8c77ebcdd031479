use Rattle.std.proofs.Common.{◌≢◌, refl, sym, subst, arith, rules}
use Rattle.lrspec.specs.texts.ReadingStates.{Behind}
use Rattle.lrtext.specs.Readings.{Reading}
use Rattle.lrtext.specs.ReadErrors.{HasContents}
use Rattle.lrtext.proofs.ReadingTexts.{IsReadTo, read_none, read_more, read_behind, read_refused, read_misfit, read_all, read_early}
use Rattle.lrtext.specs.StoredReading.{reading_of}
use Rattle.lrtext.proofs.TakenLexemes.{was_taken, was_refused}
use Rattle.lrtext.proofs.reader.read.Goals as goal

-- at first nothing was read
pub loop-reading-init : goal.loop-reading-init
loop-reading-init c =
    (c.utf8.text, subst (λ (x : Reading). IsReadTo c.args.text.now x c.args.text.now) (sym c.new-reading.ensures) (read_none c.args.text.now))

-- the text ends too early
pub returns-then-not-may_end-clause-err : goal.returns-then-not-may_end-clause-err
returns-then-not-may_end-clause-err c = read_early c.loop-reading.invariant.1 c.in-End.ensures (sym c.if-not-may_end.ensures)

-- the text ends where a document may end
pub returns-in-End-clause-ok : goal.returns-in-End-clause-ok
returns-in-End-clause-ok c =
    subst (HasContents c.args.text.now) (sym c.into_contents.ensures) (read_all c.loop-reading.invariant.1 c.in-End.ensures (sym c.if-not-may_end.ensures))

-- no lexeme begins there
pub returns-in-Misfit-clause-err : goal.returns-in-Misfit-clause-err
returns-in-Misfit-clause-err c =
    read_misfit _ c.loop-reading.invariant.1 c.in-Misfit.ensures (omega (arith, c.in-Misfit.ensures.within, c.loop-reading.invariant.1.has.within))

-- the lexeme may not come
pub returns-then-not-branch-clause-err : goal.returns-then-not-branch-clause-err
returns-then-not-branch-clause-err c =
    read_refused _ c.loop-reading.invariant.1 c.in-Lexeme.ensures (was_refused _ c.in_ok-take-in-Lexeme.field-0 c.if-not-branch.true c.in_ok-take-in-Lexeme.ensures)
    (omega (arith, c.in-Lexeme.ensures.within, c.loop-reading.invariant.1.has.within))

-- the lexeme is the second `%%`
pub returns-then-is_behind-clause-ok : goal.returns-then-is_behind-clause-ok
returns-then-is_behind-clause-ok c =
    subst (HasContents c.args.text.now) (sym c.into_contents-then-is_behind.ensures)
    (read_behind c.loop-reading.invariant.1 c.in-Lexeme.ensures (was_taken c.in_ok-take-in-Lexeme.field-0 c.if-not-branch.false c.in_ok-take-in-Lexeme.ensures) (c.if-is_behind.ensures.0 refl))

-- the lexeme was taken, and the text goes on
pub loop-reading-preserved : goal.loop-reading-preserved
loop-reading-preserved c =
    let ahead : (reading_of c.take.new.self).state ≢ Behind = λ e. let h = c.if-is_behind.ensures.1 e in (cc) in
    (search rules, read_more c.loop-reading.invariant.1 c.in-Lexeme.ensures (was_taken c.in_ok-take-in-Lexeme.field-0 c.if-not-branch.false c.in_ok-take-in-Lexeme.ensures) ahead)
