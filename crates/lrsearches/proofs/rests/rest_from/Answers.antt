-- a turn for each symbol
use Rattle.std.proofs.Common.{◌≡◌, ◌-◌, ◌∙◌, sym, length, map, take, drop, true, false}
use Rattle.lrspec.specs.grammars.Grammar as math
use Rattle.lrgrammar.specs.Symbols.{symbol_of}
use Rattle.lrclosing.proofs.SymbolsBehindDots.{symbols_behind, sliced, left_at, left_none}
use Rattle.lrsearches.specs.declared.rests.Rest.TheVariants as rest
use Rattle.lrsearches.proofs.RestsInTurn.{rest_of_none, rest_of_token, rest_of_other, rest_of_first, rest_of_stop, rest_past}
use Rattle.lrsearches.proofs.rests.rest_from.Goals as goal

pub loop-symbol-init : goal.loop-symbol-init
loop-symbol-init g c =
    let number = g.T.IndexStorage.number in
    let p = number c.args.pidx.0 in
    let e : map (symbol_of number) (take (length c.prod.result.now - c.args.from) (drop c.args.from c.prod.result.now)) ≡ math.rest c.args.grm.now p c.args.from =
    sliced (symbol_of number) c.prod.result.now c.args.from (math.body_of c.args.grm.now p) c.prod.ensures.body in
    rw e record { symbols = symbols_behind c.args.grm.now c.args.from (math.body_of c.args.grm.now p) (c.prod.ensures.shape.symbols p); same = λ x r. r }

pub returns-then-eq : goal.returns-then-eq
returns-then-eq g c =
    let number = g.T.IndexStorage.number in
    let left = left_at (symbol_of number) _ c.loop-symbol.symbol-index c.symbol-item.result _ c.loop-symbol-test.true c.symbol-item.is c.in-Token.is in
    let same = rw left at c.loop-symbol.invariant.same in
    let e = (g.met.T.IndexStorage.same c.in-Token.tidx.0 c.args.token.0).0 (sym c.eq.ensures ∙ c.if-eq.true) in
    same rest.Begins (rw e (rest_of_token c.args.grm.now (number c.args.token.0) _))

pub returns-else-eq : goal.returns-else-eq
returns-else-eq g c =
    let number = g.T.IndexStorage.number in
    let left = left_at (symbol_of number) _ c.loop-symbol.symbol-index c.symbol-item.result _ c.loop-symbol-test.true c.symbol-item.is c.in-Token.is in
    let same = rw left at c.loop-symbol.invariant.same in
    same rest.Neither (rest_of_other c.args.grm.now (number c.args.token.0) (number c.in-Token.tidx.0) _ (λ e. let eq = (g.met.T.IndexStorage.same c.in-Token.tidx.0 c.args.token.0).1 e in let no : false ≡ true = sym c.if-eq.false ∙ c.eq.ensures ∙ eq in cc))

pub returns-then-get : goal.returns-then-get
returns-then-get g c =
    let number = g.T.IndexStorage.number in
    let left = left_at (symbol_of number) _ c.loop-symbol.symbol-index c.symbol-item.result _ c.loop-symbol-test.true c.symbol-item.is c.in-Rule.is in
    let same = rw left at c.loop-symbol.invariant.same in
    same rest.Begins (rest_of_first c.args.grm.now (number c.args.token.0) c.args.firsts.now c.requires.of (number c.in-Rule.ridx.0) _
    (rw (← c.firsts.ensures, ← c.from.ensures) (sym c.get.ensures.value ∙ c.if-get.true)))

pub returns-then-not-is_epsilon_set : goal.returns-then-not-is_epsilon_set
returns-then-not-is_epsilon_set g c =
    let number = g.T.IndexStorage.number in
    let left = left_at (symbol_of number) _ c.loop-symbol.symbol-index c.symbol-item.result _ c.loop-symbol-test.true c.symbol-item.is c.in-Rule.is in
    let same = rw left at c.loop-symbol.invariant.same in
    same rest.Neither (rest_of_stop c.args.grm.now (number c.args.token.0) c.args.firsts.now c.requires.of (number c.in-Rule.ridx.0) _
    (rw (← c.firsts.ensures, ← c.from.ensures) (sym c.get.ensures.value ∙ c.if-get.false))
    (sym c.is_epsilon_set.ensures ∙ c.if-not-is_epsilon_set.true))

pub loop-symbol-preserved : goal.loop-symbol-preserved
loop-symbol-preserved g c =
    let number = g.T.IndexStorage.number in
    let left = left_at (symbol_of number) _ c.loop-symbol.symbol-index c.symbol-item.result _ c.loop-symbol-test.true c.symbol-item.is c.in-Rule.is in
    let same = rw left at c.loop-symbol.invariant.same in
    let symbols = rw left at c.loop-symbol.invariant.symbols in
    record {
      symbols = symbols.1;
      same = λ x r. same x (rest_past c.args.grm.now (number c.args.token.0) c.args.firsts.now c.requires.of (number c.in-Rule.ridx.0) _
          (rw (← c.firsts.ensures, ← c.from.ensures) (sym c.get.ensures.value ∙ c.if-get.false))
          (sym c.is_epsilon_set.ensures ∙ c.if-not-is_epsilon_set.false) x r);
    }

pub returns : goal.returns
returns g c =
    let number = g.T.IndexStorage.number in
    let left = left_none (symbol_of number) _ c.loop-symbol.symbol-index c.loop-symbol-test.false in
    c.loop-symbol.invariant.same rest.Nullable (rw left (rest_of_none c.args.grm.now (number c.args.token.0)))
