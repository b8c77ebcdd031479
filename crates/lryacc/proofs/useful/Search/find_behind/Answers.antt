use Rattle.std.proofs.Common.{◌≡◌, ◌<◌, ◌∙◌, List, Some, ap, length, map, slice_get, subst, sym}
use Rattle.lrgrammar.specs.declared.grammar.PartProd.{PartProd}
use Rattle.lrgrammar.specs.declared.grammar.PartSymbol.{PartSymbol}
use Rattle.lrgrammar.specs.StoredParts.{part_symbol_of}
use Rattle.lryacc.specs.UsefulRules.{FindsAmong}
use Rattle.lryacc.proofs.LeastSets.{among_again, among_rule, reaches_behind, rule-among}
use Rattle.lryacc.proofs.Numbered.{element-at, some-at}
use Rattle.lryacc.proofs.useful.Search.find_behind.Goals as goal
use Rattle.lryacc.proofs.useful.Search.find_behind.Goals.{in-Rule+in_ok-find, in_default-symbol}

pub loop-symbol-preserved : goal.loop-symbol-preserved
loop-symbol-preserved c =
    let symbols = c.deref-symbol-items.result.now in
    let index = c.loop-symbol.symbol-index in
    let below : index < length symbols = c.loop-symbol-test.true in
    let so_far = c.loop-symbol.invariant in
    elim c.match-symbol.branch [
      | in-Rule+in_ok-find w ↦
          let here = element-at symbols index _ below ∙ ap (λ (symbol : PartSymbol). Some symbol) w.in-Rule.is in
          let rule = w.in-Rule.rule in
          rw w.self-is
          (among_again so_far
          (among_rule (map part_symbol_of symbols) rule c.loop-symbol.self.found.items w.find.new.self.found.items w.in_ok-find.ensures (rule-among symbols index rule here)))
      | in_default-symbol w ↦ rw w.self-is so_far
    ]

pub returns : goal.returns
returns c =
    let prods = c.args.parts.now.prods.items in
    let place = c.in-Some.ensures.lookup in
    let production = c.in-Some.production.now in
    let at : slice_get prods c.args.prod ≡ Some production = subst (λ (ps : List PartProd). slice_get ps c.args.prod ≡ Some production) c.deref.ensures.value (some-at _ _ _ place.3.0 place.1) in
    reaches_behind c.args.productive.now.found.items prods c.args.prod production c.args.self.now.found.items c.loop-symbol.self.found.items at
    (sym c.is_useful.ensures ∙ c.if-not-is_useful.false)
    (subst (λ (symbols : List PartSymbol). FindsAmong (map part_symbol_of symbols) c.args.self.now.found.items c.loop-symbol.self.found.items) c.deref-symbol-items.ensures.value c.loop-symbol.invariant)
