use Rattle.std.proofs.Common.{◌∙◌, is_some, map, refl, arith}
use Rattle.lryacc.proofs.useful.without_useless.Goals as goal

pub returns-clause-without : goal.returns-clause-without
returns-clause-without c =
    let selection = c.in_ok-selection.selection in
    let chosen = c.in_ok-selection.ensures in
    let parted = c.in_ok-productions.ensures in
    let rules = c.in_ok-rules.ensures in
    let with = c.with_productions.ensures in
    record {
      numbers = selection.numbers.items;
      in_order = chosen.order;
      many = omega (arith, chosen.many, selection.numbers.ok.0);
      productive = selection.productive.found.items;
      has_productive = chosen.productive;
      least_productive = chosen.least_productive;
      reached = map is_some selection.numbers.items;
      has_reached = chosen.reached;
      least_reached = chosen.least_reached;
      numbered = refl;
      names = with.rules ∙ rules.names;
      places = with.rule_places ∙ rules.places;
      tokens = with.tokens ∙ rules.tokens;
      start = with.start ∙ rules.start;
      stay = rw (with.prods, with.places, with.symbol_places) parted.stay;
      all = λ no_rule no_production. rw (with.prods, with.places, with.symbol_places) (parted.all no_rule no_production);
    }
