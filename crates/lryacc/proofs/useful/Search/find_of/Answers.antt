use Rattle.std.proofs.Common.{◌≡◌, ◌∙◌, List, Bool, true, Some, map, slice_get, subst, sym}
use Rattle.lrgrammar.specs.declared.grammar.PartProd.{PartProd}
use Rattle.lrgrammar.specs.StoredParts.{part_symbol_of}
use Rattle.lryacc.specs.UsefulRules.{FindsProductive, has_all, productions_in}
use Rattle.lryacc.proofs.LeastSets.{finds_rule_of}
use Rattle.lryacc.proofs.Numbered.{some-at}
use Rattle.lryacc.proofs.useful.Search.find_of.Goals as goal

pub returns-in_ok-find : goal.returns-in_ok-find
returns-in_ok-find c =
    let found = c.args.self.now.found.items in
    let prods = c.args.parts.now.prods.items in
    let place = c.in-Some.ensures.lookup in
    let at : slice_get prods c.args.prod ≡ Some c.in-Some.found.now = subst (λ (ps : List PartProd). slice_get ps c.args.prod ≡ Some c.in-Some.found.now) c.deref.ensures.value (some-at _ _ _ place.3.0 place.1) in
    let all : has_all found (map part_symbol_of c.in-Some.found.now.symbols.items) ≡ true = rw (← c.as_slice.ensures.value) (sym c.has_all.ensures ∙ c.if-has_all.true) in
    subst (λ (rules : List Bool). FindsProductive (productions_in c.args.parts.now) found rules) (sym c.in_ok-find.ensures)
    (finds_rule_of prods c.args.prod c.in-Some.found.now found at all)
