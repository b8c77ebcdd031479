use Rattle.std.proofs.Common.{◌∙◌, refl}
use Rattle.lryacc.specs.declared.lexemes.LexemeKind.TheVariants as kind
use Rattle.lryacc.proofs.DeclarationsRead.{silent-skips}
use Rattle.lryacc.proofs.reader.Reader.pass_between.Goals as goal

pub returns-then-skip-clause-said : goal.returns-then-skip-clause-said
returns-then-skip-clause-said c = silent-skips c.args.self.now c.skip.new.self kind.Prologue refl c.skip.result c.skip.ensures.skipped c.skip.ensures.statements

pub returns-then-skip-2-clause-said : goal.returns-then-skip-2-clause-said
returns-then-skip-2-clause-said c =
    silent-skips c.skip.new.self c.skip-2.new.self kind.DirectiveLine refl c.skip-2.result c.skip-2.ensures.skipped c.skip-2.ensures.statements ∙ silent-skips c.args.self.now c.skip.new.self kind.Prologue refl c.skip.result c.skip.ensures.skipped c.skip.ensures.statements

pub returns-then-eq-clause-said : goal.returns-then-eq-clause-said
returns-then-eq-clause-said c =
    silent-skips c.skip-2.new.self c.skip-then-eq.new.self kind.Semicolon refl c.skip-then-eq.result c.skip-then-eq.ensures.skipped c.skip-then-eq.ensures.statements
    ∙ (silent-skips c.skip.new.self c.skip-2.new.self kind.DirectiveLine refl c.skip-2.result c.skip-2.ensures.skipped c.skip-2.ensures.statements ∙ silent-skips c.args.self.now c.skip.new.self kind.Prologue refl c.skip.result c.skip.ensures.skipped c.skip.ensures.statements)

pub returns-else-eq-clause-said : goal.returns-else-eq-clause-said
returns-else-eq-clause-said c =
    silent-skips c.skip.new.self c.skip-2.new.self kind.DirectiveLine refl c.skip-2.result c.skip-2.ensures.skipped c.skip-2.ensures.statements ∙ silent-skips c.args.self.now c.skip.new.self kind.Prologue refl c.skip.result c.skip.ensures.skipped c.skip.ensures.statements
