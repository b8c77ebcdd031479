use Rattle.std.proofs.Common.{None, refl, subst, sym}
use Rattle.lryacc.specs.declared.contents.BodyPart.{BodyPart}
use Rattle.lryacc.specs.BodyProductions.{AddsProductions, IsOfPartBefore}
use Rattle.lryacc.specs.Numbered.{names_of}
use Rattle.lryacc.proofs.ProductionsAdded.{one_added}
use Rattle.lryacc.proofs.numbering.Numbering.add_part.Goals as goal

pub returns-clause-added : goal.returns-clause-added
returns-clause-added c =
    let names = names_of c.args.self.now in
    let old = c.args.productions.now in
    let new = c.add.new.self in
    subst (λ (p : BodyPart). AddsProductions old new (IsOfPartBefore names p)) (sym c.in-Action.is)
    (one_added names old new c.in-Action.action c.in-Action.field-1 record {
      prod = record { rule = c.in_ok-rule_of_action.field-0; symbols = c.new.result; precedence = None };
      prods = c.in_ok-add.ensures.prods;
      is = record { rule = c.in_ok-rule_of_action.ensures; symbols = c.new.ensures.items; precedence = refl };
    })
