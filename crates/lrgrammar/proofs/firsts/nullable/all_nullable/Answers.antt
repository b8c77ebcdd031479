use Rattle.std.proofs.Common.{◌≡◌, ◌+◌, true, false, ◌∷◌, map, drop, ap, sym, ◌∙◌, subst, arith}
use Rattle.std.proofs.lemmas.List.{drop_all}
use Rattle.lrspec.specs.grammars.Grammar as math
use Rattle.lrbits.specs.Bits.{bit}
use Rattle.lrgrammar.specs.Symbols.{symbol_of}
use Rattle.lrgrammar.specs.NullableBits.{all_set}
use Rattle.lrgrammar.proofs.Turns.{left_is, set_behind, unset_ahead, token_ahead, symbols_behind}
use Rattle.lrgrammar.proofs.firsts.nullable.all_nullable.Goals as goal

pub loop-symbol-preserved : goal.loop-symbol-preserved
loop-symbol-preserved g c =
    let number = g.T.IndexStorage.number in
    let f = symbol_of number in
    let items = c.prod-symbol-items.result.now in
    let i = c.loop-symbol.symbol-index in
    let r = number c.in-Rule.r.0 in
    let next = map f (drop (i + 1) items) in
    let e : map f (drop i items) ≡ math.Symbol.Rule r ∷ next = left_is f items i c.symbol-item.result c.loop-symbol-test.true c.symbol-item.is ∙ ap (λ x. f x ∷ next) c.in-Rule.is in
    let b : bit c.args.known.now r ≡ true = ap (bit c.args.known.now) (sym c.to_usize.ensures.number) ∙ sym c.get.ensures.value ∙ c.if-not-get.false in
    record {
      same = set_behind c.args.known.now r (map f (drop i items)) next (all_set c.args.known.now (math.body_of c.args.grm.now (number c.args.pidx.0))) e b c.loop-symbol.invariant.same;
      in_range = symbols_behind c.args.grm.now (math.Symbol.Rule r) (map f (drop i items)) next e c.loop-symbol.invariant.in_range;
    }

pub loop-symbol-init : goal.loop-symbol-init
loop-symbol-init g c = record {
  same = ap (all_set c.args.known.now) c.prod-symbol-items.ensures.body;
  in_range = subst (math.AreBodySymbols c.args.grm.now) (sym c.prod-symbol-items.ensures.body) (c.prod-symbol-items.ensures.shape.symbols (g.T.IndexStorage.number c.args.pidx.0));
}

pub get-requires : goal.get-requires
get-requires g c =
    let number = g.T.IndexStorage.number in
    let f = symbol_of number in
    let items = c.prod-symbol-items.result.now in
    let i = c.loop-symbol.symbol-index in
    let next = map f (drop (i + 1) items) in
    let e : map f (drop i items) ≡ math.Symbol.Rule (number c.in-Rule.r.0) ∷ next = left_is f items i c.symbol-item.result c.loop-symbol-test.true c.symbol-item.is ∙ ap (λ x. f x ∷ next) c.in-Rule.is in
    let below = (subst (math.AreBodySymbols c.args.grm.now) e c.loop-symbol.invariant.in_range).0 in
    omega (arith, below.1, c.requires.rules, c.to_usize.ensures.number)

pub returns-then-not-get : goal.returns-then-not-get
returns-then-not-get g c =
    let number = g.T.IndexStorage.number in
    let f = symbol_of number in
    let items = c.prod-symbol-items.result.now in
    let i = c.loop-symbol.symbol-index in
    let r = number c.in-Rule.r.0 in
    let next = map f (drop (i + 1) items) in
    let e : map f (drop i items) ≡ math.Symbol.Rule r ∷ next = left_is f items i c.symbol-item.result c.loop-symbol-test.true c.symbol-item.is ∙ ap (λ x. f x ∷ next) c.in-Rule.is in
    let b : bit c.args.known.now r ≡ false = ap (bit c.args.known.now) (sym c.to_usize.ensures.number) ∙ sym c.get.ensures.value ∙ c.if-not-get.true in
    unset_ahead c.args.known.now r (map f (drop i items)) next (all_set c.args.known.now (math.body_of c.args.grm.now (number c.args.pidx.0))) e b c.loop-symbol.invariant.same

pub returns-in-Token : goal.returns-in-Token
returns-in-Token g c =
    let number = g.T.IndexStorage.number in
    let f = symbol_of number in
    let items = c.prod-symbol-items.result.now in
    let i = c.loop-symbol.symbol-index in
    let t = number c.in-Token.field-0.0 in
    let next = map f (drop (i + 1) items) in
    let e : map f (drop i items) ≡ math.Symbol.Token t ∷ next = left_is f items i c.symbol-item.result c.loop-symbol-test.true c.symbol-item.is ∙ ap (λ x. f x ∷ next) c.in-Token.is in
    token_ahead c.args.known.now t (map f (drop i items)) next (all_set c.args.known.now (math.body_of c.args.grm.now (number c.args.pidx.0))) e c.loop-symbol.invariant.same

pub returns : goal.returns
returns g c =
    let f = symbol_of g.T.IndexStorage.number in
    let none = ap (map f) (drop_all c.loop-symbol.symbol-index c.prod-symbol-items.result.now c.loop-symbol-test.false) in
    sym (ap (all_set c.args.known.now) none) ∙ c.loop-symbol.invariant.same
