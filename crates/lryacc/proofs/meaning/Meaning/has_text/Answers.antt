use Rattle.std.proofs.Common.{◌∙◌, ap, is_some, sym}
use Rattle.lryacc.proofs.AliasesTaken.{text_by}
use Rattle.lryacc.proofs.meaning.Meaning.has_text.Goals as goal

pub returns-else-is_undefined-clause-some : goal.returns-else-is_undefined-clause-some
returns-else-is_undefined-clause-some c = λ is.
    text_by c.args.self.now.symbols c.args.number (ap is_some (sym c.partner.ensures) ∙ sym c.is_some.ensures ∙ is)
