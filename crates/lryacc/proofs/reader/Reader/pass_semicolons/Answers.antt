use Rattle.std.proofs.Common.{◌∙◌, refl}
use Rattle.lryacc.specs.declared.lexemes.LexemeKind.TheVariants as kind
use Rattle.lryacc.proofs.BodiesRead.{over_again, over_skips}
use Rattle.lryacc.proofs.DeclarationsRead.{over-none, silent-skips}
use Rattle.lryacc.proofs.reader.Reader.pass_semicolons.Goals as goal

pub loop-init : goal.loop-init
loop-init c = record { over = over-none c.args.self.now; declared = refl }

pub loop-preserved : goal.loop-preserved
loop-preserved c = record {
  over = over_again c.loop.invariant.over (over_skips kind.Semicolon refl c.skip.result c.skip.ensures.skipped);
  declared = silent-skips c.loop.self c.skip.new.self kind.Semicolon refl c.skip.result c.skip.ensures.skipped c.skip.ensures.statements ∙ c.loop.invariant.declared;
}

pub returns-then-ne-clause-said : goal.returns-then-ne-clause-said
returns-then-ne-clause-said c = refl

pub returns-after-loop-clause-said : goal.returns-after-loop-clause-said
returns-after-loop-clause-said c = c.loop.invariant.declared

pub returns-then-not-skip-clause-said : goal.returns-then-not-skip-clause-said
returns-then-not-skip-clause-said c =
    silent-skips c.loop.self c.skip.new.self kind.Semicolon refl c.skip.result c.skip.ensures.skipped c.skip.ensures.statements
    ∙ c.loop.invariant.declared
