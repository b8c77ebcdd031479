use Rattle.std.proofs.Common.{◌<◌, ◌≤◌, map, ap, sym, ◌∙◌, subst, arith}
use Rattle.std.proofs.lemmas.Result.{IfOk-from_err}
use Rattle.lrgrammar.specs.StoredGrammar.{production_of}
use Rattle.lrgrammar.proofs.ProductionLists.{lists_none, lists_more, lists_all, production_at}
use Rattle.std.proofs.lemmas.List.{length-map}
use Rattle.lrgrammar.proofs.Turns.{has_index, index_number}
use Rattle.lrgrammar.proofs.grammar.lists.production_lists.Goals as goal

pub loop-i-init : goal.loop-i-init
loop-i-init g c =
    lists_none g.T.IndexStorage.number (map (production_of g.T.IndexStorage.number) c.args.prods.now) c.args.rules c.in_ok-lists.lists.items c.in_ok-lists.ensures.count c.in_ok-lists.ensures.empty

pub loop-i-preserved : goal.loop-i-preserved
loop-i-preserved g c =
    let view = production_of g.T.IndexStorage.number in
    let prod = c.index-prods-i.result in
    lists_more g.T.IndexStorage.number (map view c.args.prods.now) c.args.rules c.loop-i.lists.items c.add_to.new.lists.items c.loop-i.i (view prod) _ _ c.loop-i.invariant (production_at view c.args.prods.now c.loop-i.i prod c.loop-i-test.true c.index-prods-i.is) (ap (λ p. (view p).rule) c.index-prods-i.is ∙ sym c.to_usize.ensures.number) (index_number g.T.IndexStorage.number g.T.IndexStorage.MAX c.loop-i.i c.from_usize.result c.unwrap.result c.unwrap.ensures c.from_usize.ensures) c.in_ok-add_to.ensures.count c.in_ok-add_to.ensures.added c.in_ok-add_to.ensures.others

pub returns : goal.returns
returns g c =
    lists_all g.T.IndexStorage.number (map (production_of g.T.IndexStorage.number) c.args.prods.now) c.args.rules _ c.loop-i.i (omega (arith, length-map c.args.prods.now (production_of g.T.IndexStorage.number))) c.loop-i.invariant

pub unwrap-requires : goal.unwrap-requires
unwrap-requires g c =
    let fits : c.loop-i.i ≤ g.T.IndexStorage.MAX = omega (arith, c.requires.few, c.loop-i-test.true) in
    has_index _ g.T.IndexStorage.MAX c.loop-i.i c.from_usize.result c.from_usize.ensures fits

pub add_to-requires : goal.add_to-requires
add_to-requires g c =
    let prod = c.index-prods-i.result in
    let below = subst (λ k. k < c.args.rules) (sym (ap (λ p. (production_of g.T.IndexStorage.number p).rule) c.index-prods-i.is)) (c.requires.within c.loop-i.i prod c.loop-i-test.true) in
    omega (arith, below, c.to_usize.ensures.number, c.loop-i.invariant.count)

pub returns-in_err-lists : goal.returns-in_err-lists
returns-in_err-lists g c = IfOk-from_err c.from_residual.result _ c.from_residual.ensures.0

pub returns-in_err-add_to : goal.returns-in_err-add_to
returns-in_err-add_to g c = IfOk-from_err c.from_residual-in_err-add_to.result _ c.from_residual-in_err-add_to.ensures.0
