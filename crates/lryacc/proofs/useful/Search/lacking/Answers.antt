use Rattle.std.proofs.Common.{◌≡◌, ◌<◌, ◌≤◌, List, true, false, IsTrue, get_or, length, map, ap, sym, ◌∙◌, arith}
use Rattle.std.proofs.lemmas.Bool.{false≢true}
use Rattle.lrgrammar.specs.declared.grammar.PartProd.{PartProd}
use Rattle.lrgrammar.specs.StoredParts.{part_production_of, part_symbol_of}
use Rattle.lrspec.specs.grammars.Grammar.{Production}
use Rattle.lryacc.proofs.LeastSets.{finds_rule_of}
use Rattle.lryacc.proofs.Numbered.{some-at}
use Rattle.lryacc.proofs.UsefulLemmas.{All-map-all, All-map-more}
use Rattle.lryacc.specs.UsefulRules.{has, has_all}
use Rattle.lryacc.proofs.useful.Search.lacking.Goals as goal
use Rattle.lryacc.proofs.useful.Search.lacking.Goals.{then-has_all+else-not-has, else-has_all}

pub loop-prod-preserved : goal.loop-prod-preserved
loop-prod-preserved c =
    let found = c.args.self.now.found.items in
    let prods = c.args.parts.now.prods.items in
    let index = c.loop-prod.prod-index in
    let prod = c.prod-item.result in
    let value = c.deref-prod-items.ensures.value in
    let below : index < length prods = omega (arith, ap length value) in
    let at : prod ≡ get_or prods index prod = c.prod-item.is ∙ ap (λ (xs : List PartProd). get_or xs index prod) value in
    let P : Production → Type 0 = λ production. IsTrue (has_all found production.body) → IsTrue (has found production.rule) in
    elim c.if-has_all.branch [
      | then-has_all+else-not-has w ↦
          All-map-more P part_production_of prods index prod below at c.loop-prod.invariant
          (λ _. sym w.has.ensures ∙ w.if-not-has.false)
      | else-has_all w ↦
          let none : has_all found (map part_symbol_of prod.symbols.items) ≡ false =
          rw (← c.as_slice.ensures.value) (sym c.has_all.ensures ∙ w.if-has_all.false) in
          All-map-more P part_production_of prods index prod below at c.loop-prod.invariant
          (λ all. absurd (false≢true (sym none ∙ all)))
    ]

pub returns-clause-none : goal.returns-clause-none
returns-clause-none c =
    let found = c.args.self.now.found.items in
    let prods = c.args.parts.now.prods.items in
    let index = c.loop-prod.prod-index in
    let behind : length prods ≤ index = omega (arith, ap length c.deref-prod-items.ensures.value) in
    let P : Production → Type 0 = λ production. IsTrue (has_all found production.body) → IsTrue (has found production.rule) in
    λ _. All-map-all P part_production_of prods index behind c.loop-prod.invariant

pub returns-then-not-has-clause-finds : goal.returns-then-not-has-clause-finds
returns-then-not-has-clause-finds c =
    let found = c.args.self.now.found.items in
    let prods = c.args.parts.now.prods.items in
    let index = c.loop-prod.prod-index in
    let prod = c.prod-item.result in
    let value = c.deref-prod-items.ensures.value in
    let below : index < length prods = omega (arith, ap length value) in
    let at : prod ≡ get_or prods index prod = c.prod-item.is ∙ ap (λ (xs : List PartProd). get_or xs index prod) value in
    let all : has_all found (map part_symbol_of prod.symbols.items) ≡ true = rw (← c.as_slice.ensures.value) (sym c.has_all.ensures ∙ c.if-has_all.true) in
    finds_rule_of prods index prod found (some-at prods index prod below at) all
