use Rattle.std.proofs.Common.{◌∙◌, refl}
use Rattle.lryacc.specs.declared.lexemes.LexemeKind.TheVariants as kind
use Rattle.lryacc.proofs.DeclarationsRead.{listed-again, nothing-skips, silent-skips}
use Rattle.lryacc.proofs.reader.Reader.skip_value.Goals as goal

pub returns-then-skip-clause-said : goal.returns-then-skip-clause-said
returns-then-skip-clause-said c = (nothing-skips kind.Name refl c.requires c.skip.result c.skip.ensures.skipped c.skip.ensures.statements).declared

pub returns-then-skip-2-clause-said : goal.returns-then-skip-2-clause-said
returns-then-skip-2-clause-said c =
    let one = nothing-skips kind.Name refl c.requires c.skip.result c.skip.ensures.skipped c.skip.ensures.statements in
    let two = listed-again one (nothing-skips kind.Text refl (one.form ∙ c.requires) c.skip-2.result c.skip-2.ensures.skipped c.skip-2.ensures.statements) in
    two.declared

pub returns-clause-said : goal.returns-clause-said
returns-clause-said c =
    let one = nothing-skips kind.Name refl c.requires c.skip.result c.skip.ensures.skipped c.skip.ensures.statements in
    let two = listed-again one (nothing-skips kind.Text refl (one.form ∙ c.requires) c.skip-2.result c.skip-2.ensures.skipped c.skip-2.ensures.statements) in
    silent-skips c.skip-2.new.self c.skip-3.new.self kind.Action refl c.skip-3.result c.skip-3.ensures.skipped c.skip-3.ensures.statements ∙ two.declared
