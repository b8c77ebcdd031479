use Rattle.lryacc.proofs.BodiesRead.{bar_taken}
use Rattle.std.proofs.Common.{◌∙◌, refl}
use Rattle.lryacc.specs.declared.lexemes.LexemeKind.TheVariants as kind
use Rattle.lryacc.proofs.DeclarationsRead.{silent-takes}
use Rattle.lryacc.proofs.reader.Reader.bar.Goals as goal

pub returns-clause-taken : goal.returns-clause-taken
returns-clause-taken c = bar_taken _ _ _ c.take.result c.pass_semicolons.ensures.over c.take.ensures.taken

pub returns-clause-said : goal.returns-clause-said
returns-clause-said c =
    silent-takes c.pass_semicolons.new.self c.take.new.self kind.Bar refl c.take.result c.take.ensures.taken c.take.ensures.statements
    ∙ c.pass_semicolons.ensures.said
