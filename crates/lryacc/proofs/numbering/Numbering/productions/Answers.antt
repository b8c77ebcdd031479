use Rattle.std.proofs.Common.{◌++◌, List, ap, ◌∙◌}
use Rattle.lrgrammar.specs.declared.grammar.PartProd.{PartProd}
use Rattle.lryacc.proofs.numbering.Numbering.productions.Goals as goal

pub returns-clause-productions : goal.returns-clause-productions
returns-clause-productions c =
    let starts = c.in_ok-add_starts.ensures.added in
    let bodies = c.in_ok-add_alternatives.ensures.added in
    record {
      of_starts = starts.added;
      of_bodies = bodies.added;
      all =
          bodies.prods
          ∙ ap (λ (ps : List PartProd). ps ++ bodies.added) (starts.prods ∙ ap (λ (ps : List PartProd). ps ++ starts.added) c.new-productions.ensures.no_production);
      first = starts.are;
      behind = bodies.are;
    }
