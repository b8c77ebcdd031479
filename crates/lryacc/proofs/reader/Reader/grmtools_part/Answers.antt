use Rattle.std.proofs.Common.{◌∙◌, refl}
use Rattle.lryacc.specs.declared.contents.Statement.TheVariants as says
use Rattle.lryacc.proofs.DeclarationsRead.{stated-other}
use Rattle.lryacc.proofs.reader.Reader.grmtools_part.Goals as goal

pub returns-in_ok-symbol_part-in-QuotedName-clause-kept : goal.returns-in_ok-symbol_part-in-QuotedName-clause-kept
returns-in_ok-symbol_part-in-QuotedName-clause-kept c =
    c.in_ok-symbol_part-in-QuotedName.ensures.kept
    ∙ stated-other c.args.self.now c.state.new.self (says.Token c.args.lexeme) refl c.in_ok-state-in-QuotedName.ensures.stated
