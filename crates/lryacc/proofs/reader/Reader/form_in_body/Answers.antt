use Rattle.std.proofs.Common.{◌∙◌, ap, sym}
use Rattle.lryacc.specs.Bodies.{is_in_bodies}
use Rattle.lryacc.specs.NamedSymbols.{text_at}
use Rattle.lryacc.proofs.BodiesDeclare.{stands-for_bison}
use Rattle.lryacc.proofs.reader.Reader.form_in_body.Goals as goal

pub returns-then-is_in_bodies-clause-stands : goal.returns-then-is_in_bodies-clause-stands
returns-then-is_in_bodies-clause-stands c = λ some.
    stands-for_bison c.args.self.now.dialect (text_at c.args.self.now.text.now c.args.lexeme.span)
    (ap (is_in_bodies c.args.self.now.dialect) (sym c.bytes-word.ensures) ∙ (sym c.is_in_bodies.ensures ∙ c.if-is_in_bodies.true))
