use Rattle.std.proofs.Common.{◌-◌, List, arith, ap, length, refl, sym, ◌∙◌}
use Rattle.lryacc.specs.declared.lexemes.Lexeme.{Lexeme}
use Rattle.lryacc.specs.Bodies.{reach_over}
use Rattle.lryacc.proofs.BodyReach.{reach-on, reach-still}
use Rattle.lryacc.proofs.BodiesRead.{GoesOn-on, IsSameFile-again}
use Rattle.lryacc.proofs.Numbered.{place-within}
use Rattle.lryacc.proofs.reader.Reader.parts.Goals as goal

pub loop-lexeme-init : goal.loop-lexeme-init
loop-lexeme-init c = record {
  file = record { text = refl; lexemes = refl; dialect = refl; bodies = refl; faults = omega arith };
  parts = λ from so_far. so_far;
  on = omega arith;
  kept = refl;
  reach = reach-still c.args.self.now.lexemes.now c.args.self.now.at c.args.body.now.span;
}

pub loop-lexeme-smaller : goal.loop-lexeme-smaller
loop-lexeme-smaller c =
    let so_far = c.loop-lexeme.invariant in
    let now = c.loop-lexeme.self in
    let read = GoesOn-on _ _ _ _ c.in_ok-goes_on.field-0 c.if-not-branch.false c.in_ok-goes_on.ensures.read in
    let within = place-within now.lexemes.now now.at c.in-Some.lexeme (sym c.here.ensures.is ∙ c.in-Some.is) in
    omega (arith, read.on, within, ap (λ (xs : List Lexeme). length xs) so_far.file.lexemes)

pub loop-lexeme-preserved : goal.loop-lexeme-preserved
loop-lexeme-preserved c =
    let so_far = c.loop-lexeme.invariant in
    let first = c.args.self.now in
    let now = c.loop-lexeme.self in
    let new = c.goes_on.new.self in
    let read = GoesOn-on _ _ _ _ c.in_ok-goes_on.field-0 c.if-not-branch.false c.in_ok-goes_on.ensures.read in
    record {
      file = IsSameFile-again so_far.file read.file;
      parts = λ from begun.
          rw (sym so_far.file.text, sym so_far.file.lexemes)
          (read.parts from (rw (so_far.file.text, so_far.file.lexemes) (so_far.parts from begun)));
      on = omega (arith, so_far.on, read.on);
      kept = c.in_ok-goes_on.ensures.kept ∙ so_far.kept;
      reach =
          reach-on first.lexemes.now c.args.body.now.span c.loop-lexeme.body.span c.goes_on.new.body.span first.at now.at new.at so_far.on
          (omega (arith, read.on)) so_far.reach
          (read.reach ∙ ap (λ (xs : List Lexeme). reach_over xs now.at c.loop-lexeme.body.span (new.at - now.at)) so_far.file.lexemes);
    }

pub returns-then-not-branch-clause-kept : goal.returns-then-not-branch-clause-kept
returns-then-not-branch-clause-kept c = c.in_ok-goes_on.ensures.kept ∙ c.loop-lexeme.invariant.kept

pub returns-clause-kept : goal.returns-clause-kept
returns-clause-kept c = c.loop-lexeme.invariant.kept
