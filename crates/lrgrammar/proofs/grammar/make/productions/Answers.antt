use Rattle.std.proofs.Common.{◌≡◌, ◌+◌, ◌≤◌, map, sym, ap, ◌∙◌, subst, arith}
use Rattle.std.specs.Prelude.{All, IfSome}
use Rattle.std.proofs.lemmas.Result.{IfOk-from_err}
use Rattle.lrspec.specs.texts.Parts.{shifted, shifted_production, start_production_of}
use Rattle.lrtext.specs.declared.parts.PartProd.{PartProd}
use Rattle.lrtext.specs.StoredParts.{parts_of, part_symbol_of, part_production_of}
use Rattle.lrgrammar.specs.PartNumbers.{part_number}
use Rattle.lrgrammar.specs.Symbols.{symbol_of}
use Rattle.lrgrammar.specs.StoredGrammar.{production_of}
use Rattle.lrgrammar.proofs.Turns.{maps_more, maps_all, all_along, same_production, has_index, index_number}
use Rattle.lrgrammar.proofs.grammar.make.productions.Goals as goal

pub loop-prod-preserved : goal.loop-prod-preserved
loop-prod-preserved g c =
    let number = g.T.IndexStorage.number in
    let prod = c.prod-item.result in
    let n : number c.unwrap.result ≡ prod.rule + 1 = index_number number g.T.IndexStorage.MAX (prod.rule + 1) c.from_usize.result c.unwrap.result c.unwrap.ensures c.from_usize.ensures in
    maps_more (production_of number) shifted_production part_production_of c.deref-prod-items.result.now c.args.parts.now.prods.items c.loop-prod.prod-index prod c.loop-prod.prods.items c.push.new.self.items _ c.deref-prod-items.ensures.value c.loop-prod-test.true
    (same_production (number c.unwrap.result) (prod.rule + 1) (map (symbol_of number) c.in_ok-body.body.items) (map shifted (map part_symbol_of prod.symbols.items)) _ prod.precedence n c.in_ok-body.ensures c.named_token-precedence.ensures ∙ ap (λ p. shifted_production (part_production_of p)) c.prod-item.is)
    c.in_ok-push.ensures.items
    c.loop-prod.invariant

pub returns : goal.returns
returns g c =
    let number = g.T.IndexStorage.number in
    maps_all (production_of number) shifted_production part_production_of c.deref-prod-items.result.now c.args.parts.now.prods.items c.loop-prod.prod-index c.loop-prod.prods.items c.push-2.new.self.items c.in_ok-start_production.field-0 (start_production_of (parts_of c.args.parts.now)) c.deref-prod-items.ensures.value c.loop-prod-test.false c.in_ok-start_production.ensures c.in_ok-push-2.ensures.items c.loop-prod.invariant

pub loop-prod-init : goal.loop-prod-init
loop-prod-init g c = ap (map (production_of g.T.IndexStorage.number)) c.new-prods.ensures.items

pub overflow_add-prod : goal.overflow_add-prod
overflow_add-prod g c =
    let prod = c.prod-item.result in
    let small : prod.rule + 1 ≤ g.T.IndexStorage.MAX =
    subst (λ (p : PartProd). p.rule + 1 ≤ g.T.IndexStorage.MAX) (sym c.prod-item.is) (all_along (λ p. p.rule + 1 ≤ g.T.IndexStorage.MAX) c.deref-prod-items.result.now c.args.parts.now.prods.items c.loop-prod.prod-index prod c.deref-prod-items.ensures.value c.loop-prod-test.true c.requires.rules) in
    omega (arith, small, g.met.T.IndexStorage.most)

pub unwrap-requires : goal.unwrap-requires
unwrap-requires g c =
    let prod = c.prod-item.result in
    let small : prod.rule + 1 ≤ g.T.IndexStorage.MAX =
    subst (λ (p : PartProd). p.rule + 1 ≤ g.T.IndexStorage.MAX) (sym c.prod-item.is) (all_along (λ p. p.rule + 1 ≤ g.T.IndexStorage.MAX) c.deref-prod-items.result.now c.args.parts.now.prods.items c.loop-prod.prod-index prod c.deref-prod-items.ensures.value c.loop-prod-test.true c.requires.rules) in
    has_index _ g.T.IndexStorage.MAX (prod.rule + 1) c.from_usize.result c.from_usize.ensures small

pub body-requires : goal.body-requires
body-requires g c =
    subst (λ (p : PartProd). All (λ s. part_number s ≤ g.T.IndexStorage.MAX) p.symbols.items) (sym c.prod-item.is) (all_along (λ p. All (λ s. part_number s ≤ g.T.IndexStorage.MAX) p.symbols.items) c.deref-prod-items.result.now c.args.parts.now.prods.items c.loop-prod.prod-index c.prod-item.result c.deref-prod-items.ensures.value c.loop-prod-test.true c.requires.symbols)

pub named_token-precedence-requires : goal.named_token-precedence-requires
named_token-precedence-requires g c =
    subst (λ (p : PartProd). IfSome p.precedence (λ t. t ≤ g.T.IndexStorage.MAX)) (sym c.prod-item.is) (all_along (λ p. IfSome p.precedence (λ t. t ≤ g.T.IndexStorage.MAX)) c.deref-prod-items.result.now c.args.parts.now.prods.items c.loop-prod.prod-index c.prod-item.result c.deref-prod-items.ensures.value c.loop-prod-test.true c.requires.named)

pub start_production-requires : goal.start_production-requires
start_production-requires g c = c.requires.start

pub returns-in_err-body : goal.returns-in_err-body
returns-in_err-body g c = IfOk-from_err c.from_residual.result _ c.from_residual.ensures.0

pub returns-in_err-push : goal.returns-in_err-push
returns-in_err-push g c = IfOk-from_err c.from_residual-in_err-push.result _ c.from_residual-in_err-push.ensures.0

pub returns-in_err-start_production : goal.returns-in_err-start_production
returns-in_err-start_production g c = IfOk-from_err c.from_residual-in_err-start_production.result _ c.from_residual-in_err-start_production.ensures.0

pub returns-in_err-push-2 : goal.returns-in_err-push-2
returns-in_err-push-2 g c = IfOk-from_err c.from_residual-in_err-push-2.result _ c.from_residual-in_err-push-2.ensures.0
