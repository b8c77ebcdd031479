use Rattle.std.proofs.Common.{◌++◌, ◌∷◌, [], List, refl, ap, ◌∙◌}
use Rattle.std.proofs.lemmas.List.{append_assoc}
use Rattle.lrgrammar.specs.declared.grammar.PartProd.{PartProd}
use Rattle.lryacc.proofs.numbering.Numbering.add_alternative.Goals as goal

pub returns-clause-added : goal.returns-clause-added
returns-clause-added c =
    let own : PartProd = record {
      rule = c.in_ok-rule_of.field-0;
      symbols = c.in_ok-symbols.field-0.symbols;
      precedence = c.in_ok-named_precedence.field-0;
    } in
    let empty = c.in_ok-add_empty_productions.ensures.added in
    record {
      added = empty.added ++ own ∷ [];
      prods =
          c.in_ok-add.ensures.prods
          ∙ ap (λ (ps : List PartProd). ps ++ own ∷ []) empty.prods
          ∙ append_assoc c.args.productions.now.prods.items empty.added (own ∷ []);
      are = record {
        of_actions = empty.added;
        own = own;
        all = refl;
        actions = empty.are;
        rule = c.in_ok-rule_of.ensures;
        symbols = c.in_ok-symbols.ensures.symbols;
        precedence = c.in_ok-named_precedence.ensures;
      };
    }
