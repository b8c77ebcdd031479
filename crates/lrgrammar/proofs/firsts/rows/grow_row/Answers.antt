use Rattle.std.proofs.Common.{◌+◌, ◌||◌, map, drop, length, ap, sym, ◌∙◌, arith}
use Rattle.std.proofs.lemmas.List.{drop_all}
use Rattle.lrspec.specs.grammars.Grammar as math
use Rattle.lrgrammar.specs.Symbols.{symbol_of}
use Rattle.lrgrammar.proofs.Turns.{left_is}
use Rattle.lrgrammar.proofs.BodyWalks.{fits_from_body, below_from_body, walked_none, walked_more, walked_stop, walked_all}
use Rattle.lrgrammar.proofs.firsts.rows.grow_row.Goals as goal

pub add_symbol-grown-requires-clause-to : goal.add_symbol-grown-requires-clause-to
add_symbol-grown-requires-clause-to g c =
    let h = c.prod_to_rule.ensures.shape.rules _ _ c.prod_to_rule.ensures.rule in
    omega (arith, h, c.loop-symbol.invariant.shape.rules, c.to_usize-rule.ensures.number)

pub add_symbol-grown-requires-clause-fits : goal.add_symbol-grown-requires-clause-fits
add_symbol-grown-requires-clause-fits g c =
    let h = c.prod_to_rule.ensures.shape.rules _ _ c.prod_to_rule.ensures.rule in
    let e = left_is (symbol_of g.T.IndexStorage.number) c.prod-symbol-items.result.now c.loop-symbol.symbol-index c.symbol-item.result c.loop-symbol-test.true c.symbol-item.is in
    let w = rw e at c.loop-symbol.invariant in
    fits_from_body c.args.grm.now c.loop-symbol.rows c.to_usize-rule.result _ w.shape (omega (arith, h, c.to_usize-rule.ensures.number)) w.in_range.0

pub is_nullable-requires : goal.is_nullable-requires
is_nullable-requires g c =
    let e = left_is (symbol_of g.T.IndexStorage.number) c.prod-symbol-items.result.now c.loop-symbol.symbol-index c.symbol-item.result c.loop-symbol-test.true c.symbol-item.is in
    let w = rw e at c.loop-symbol.invariant in
    below_from_body c.args.grm.now (length c.args.nullable.now) _ c.requires.rules w.in_range.0

pub loop-symbol-init : goal.loop-symbol-init
loop-symbol-init g c =
    let p = g.T.IndexStorage.number c.args.pidx.0 in
    rw c.prod-symbol-items.ensures.body
    (walked_none c.args.grm.now c.args.nullable.now c.args.rows.now p c.to_usize-rule.result (c.prod-symbol-items.ensures.shape.symbols p) c.requires.shape)

pub loop-symbol-preserved : goal.loop-symbol-preserved
loop-symbol-preserved g c =
    let f = symbol_of g.T.IndexStorage.number in
    let items = c.prod-symbol-items.result.now in
    let i = c.loop-symbol.symbol-index in
    let p = g.T.IndexStorage.number c.args.pidx.0 in
    let e = left_is f items i c.symbol-item.result c.loop-symbol-test.true c.symbol-item.is in
    walked_more c.args.grm.now c.args.nullable.now c.args.rows.now c.loop-symbol.rows c.add_symbol-grown.new.rows p c.to_usize-rule.result (f c.symbol-item.result)
    (map f (drop (i + 1) items))
    c.loop-symbol.grown
    c.add_symbol-grown.result
    (rw c.to_usize-rule.ensures.number c.prod_to_rule.ensures.rule)
    c.requires.nullable
    (sym c.is_nullable.ensures ∙ c.if-not-is_nullable.false)
    (rw e at c.loop-symbol.invariant)
    c.add_symbol-grown.ensures

pub returns-then-not-is_nullable : goal.returns-then-not-is_nullable
returns-then-not-is_nullable g c =
    let f = symbol_of g.T.IndexStorage.number in
    let items = c.prod-symbol-items.result.now in
    let i = c.loop-symbol.symbol-index in
    let p = g.T.IndexStorage.number c.args.pidx.0 in
    let e = left_is f items i c.symbol-item.result c.loop-symbol-test.true c.symbol-item.is in
    let h : math.IsProductionOf c.args.grm.now p c.to_usize-rule.result = rw c.to_usize-rule.ensures.number c.prod_to_rule.ensures.rule in
    let w = walked_stop c.args.grm.now c.args.nullable.now c.args.rows.now c.loop-symbol.rows c.add_symbol-grown.new.rows p c.to_usize-rule.result (f c.symbol-item.result)
    (map f (drop (i + 1) items))
    c.loop-symbol.grown
    c.add_symbol-grown.result
    h
    (sym c.is_nullable.ensures ∙ c.if-not-is_nullable.true)
    (rw e at c.loop-symbol.invariant)
    c.add_symbol-grown.ensures in
    record {
      shape = w.shape;
      sound = w.sound;
      grown = w.grown;
      same = w.same;
      done = walked_all c.args.grm.now c.args.nullable.now c.args.rows.now c.add_symbol-grown.new.rows p c.to_usize-rule.result (c.loop-symbol.grown || c.add_symbol-grown.result) h w;
    }

pub returns-clause-done : goal.returns-clause-done
returns-clause-done g c =
    let f = symbol_of g.T.IndexStorage.number in
    let p = g.T.IndexStorage.number c.args.pidx.0 in
    let e = ap (map f) (drop_all c.loop-symbol.symbol-index c.prod-symbol-items.result.now c.loop-symbol-test.false) in
    walked_all c.args.grm.now c.args.nullable.now c.args.rows.now c.loop-symbol.rows p c.to_usize-rule.result c.loop-symbol.grown
    (rw c.to_usize-rule.ensures.number c.prod_to_rule.ensures.rule)
    (rw e at c.loop-symbol.invariant)
