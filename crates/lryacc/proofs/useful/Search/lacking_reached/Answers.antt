use Rattle.std.proofs.Common.{◌≡◌, ◌<◌, ◌≤◌, List, true, IsTrue, get_or, length, map, ap, refl, subst, sym, ◌∙◌, arith}
use Rattle.std.proofs.lemmas.Bool.{false≢true}
use Rattle.lrgrammar.specs.declared.grammar.PartProd.{PartProd}
use Rattle.lrgrammar.specs.declared.grammar.PartSymbol.{PartSymbol}
use Rattle.lrgrammar.specs.StoredParts.{part_production_of, part_symbol_of}
use Rattle.lrspec.specs.grammars.Grammar.{Production}
use Rattle.lryacc.proofs.LeastSets.{among_rule, reaches_behind, reaches_first}
use Rattle.lryacc.proofs.Numbered.{some-at}
use Rattle.lryacc.proofs.UsefulLemmas.{All-map-all, All-map-more}
use Rattle.lryacc.specs.UsefulRules.{IsRuleAmong, has_all, is_useful}
use Rattle.lryacc.proofs.useful.Search.lacking_reached.Goals as goal
use Rattle.lryacc.proofs.useful.Search.lacking_reached.Goals.{then-is_useful+in_default, else-is_useful}

pub loop-prod-preserved : goal.loop-prod-preserved
loop-prod-preserved c =
    let found = c.args.self.now.found.items in
    let prods = c.args.parts.now.prods.items in
    let index = c.loop-prod.prod-index in
    let prod = c.prod-item.result in
    let value = c.deref-prod-items.ensures.value in
    let below : index < length prods = omega (arith, ap length value) in
    let at : prod ≡ get_or prods index prod = c.prod-item.is ∙ ap (λ (xs : List PartProd). get_or xs index prod) value in
    let productive = c.args.productive.now.found.items in
    let P : Production → Type 0 = λ production. IsTrue (is_useful productive found production) → IsTrue (has_all found production.body) in
    elim c.if-is_useful.branch [
      | then-is_useful+in_default w ↦
          let all : has_all found (map part_symbol_of prod.symbols.items) ≡ true =
          rw (← w.as_slice.ensures.value) (w.lacking_among.ensures.none w.in_default.is) in
          All-map-more P part_production_of prods index prod below at c.loop-prod.invariant (λ _. all)
      | else-is_useful w ↦
          All-map-more P part_production_of prods index prod below at c.loop-prod.invariant
          (λ useful. absurd (false≢true (sym w.if-is_useful.false ∙ c.is_useful.ensures ∙ useful)))
    ]

pub returns-then-has-clause-none : goal.returns-then-has-clause-none
returns-then-has-clause-none c =
    let found = c.args.self.now.found.items in
    let prods = c.args.parts.now.prods.items in
    let index = c.loop-prod.prod-index in
    let behind : length prods ≤ index = omega (arith, ap length c.deref-prod-items.ensures.value) in
    let productive = c.args.productive.now.found.items in
    let P : Production → Type 0 = λ production. IsTrue (is_useful productive found production) → IsTrue (has_all found production.body) in
    λ _. record {
      start = sym c.has.ensures ∙ c.if-has.true;
      behind = All-map-all P part_production_of prods index behind c.loop-prod.invariant;
    }

pub returns-in-Some-clause-finds : goal.returns-in-Some-clause-finds
returns-in-Some-clause-finds c =
    let found = c.args.self.now.found.items in
    let productive = c.args.productive.now.found.items in
    let prods = c.args.parts.now.prods.items in
    let index = c.loop-prod.prod-index in
    let prod = c.prod-item.result in
    let value = c.deref-prod-items.ensures.value in
    let below : index < length prods = omega (arith, ap length value) in
    let at : prod ≡ get_or prods index prod = c.prod-item.is ∙ ap (λ (xs : List PartProd). get_or xs index prod) value in
    let among = subst (λ (symbols : List PartSymbol). IsRuleAmong (map part_symbol_of symbols) c.in-Some.rule) c.as_slice.ensures.value c.in-Some.ensures.among in
    reaches_behind productive prods index prod found _ (some-at prods index prod below at) (sym c.is_useful.ensures ∙ c.if-is_useful.true)
    (among_rule _ c.in-Some.rule found _ refl among)

pub returns-else-has-clause-finds : goal.returns-else-has-clause-finds
returns-else-has-clause-finds c = reaches_first _ _ _ _ refl
