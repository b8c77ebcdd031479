use borrow.Author.Count.{falls}
use Rattle.std.proofs.Common.{◌≡◌, ◌-◌, ◌<◌, ◌∙◌, sym, ap, refl, arith, Some, length, map, take, drop}
use Rattle.lrspec.specs.grammars.Grammar as math
use Rattle.lrbits.specs.Bits.{union}
use Rattle.lrgrammar.specs.Symbols.{symbol_of}
use Rattle.lrclosing.proofs.SymbolsBehindDots.{symbols_behind, sliced, left_at, left_none, within_body}
use Rattle.lrclosing.proofs.PassedOn.{turn_past, turn_stop, turn_token, turn_end, made_passed_on, grown_union, grown_set, grown_then, grown_before}
use Rattle.lrclosing.proofs.NullableRests.{null_past, null_stop, null_at_token, null_end}
use Rattle.lrclosing.proofs.passing.put_firsts.Goals as goal

pub loop-symbol-init : goal.loop-symbol-init
loop-symbol-init g c =
    let number = g.T.IndexStorage.number in
    let p = number c.args.pidx.0 in
    let e : map (symbol_of number) (take (length c.prod.result.now - c.args.from) (drop c.args.from c.prod.result.now)) ≡ math.rest c.args.grm.now p c.args.from =
    sliced (symbol_of number) c.prod.result.now c.args.from (math.body_of c.args.grm.now p) c.prod.ensures.body in
    rw e record {
      same = refl;
      symbols = symbols_behind c.args.grm.now c.args.from (math.body_of c.args.grm.now p) (c.prod.ensures.shape.symbols p);
      len = c.requires.len;
      grown = refl;
      nullable = ((λ a. a), (λ a. a));
    }

pub returns-in-Token-clause-put : goal.returns-in-Token-clause-put
returns-in-Token-clause-put g c =
    let number = g.T.IndexStorage.number in
    let p = number c.args.pidx.0 in
    let left = left_at (symbol_of number) _ c.loop-symbol.symbol-index c.symbol-item.result _ c.loop-symbol-test.true c.symbol-item.is c.in-Token.is in
    made_passed_on c.args.grm.now c.args.firsts.now c.requires.of (math.rest c.args.grm.now p c.args.from) c.args.row.now c.set.new.self
    (symbols_behind c.args.grm.now c.args.from (math.body_of c.args.grm.now p) (c.prod.ensures.shape.symbols p)) c.requires.len
    (turn_token c.args.firsts.now c.loop-symbol.row c.set.new.self _ _ _ (number c.in-Token.token.0) c.loop-symbol.invariant.same left (rw (← c.from.ensures) c.set.ensures.after))

pub returns-in-Token-clause-nullable : goal.returns-in-Token-clause-nullable
returns-in-Token-clause-nullable g c =
    let number = g.T.IndexStorage.number in
    let left = left_at (symbol_of number) _ c.loop-symbol.symbol-index c.symbol-item.result _ c.loop-symbol-test.true c.symbol-item.is c.in-Token.is in
    null_at_token c.args.grm.now (number c.in-Token.token.0) _ _ _ c.loop-symbol.invariant.nullable left

pub returns-then-not-is_epsilon_set-clause-put : goal.returns-then-not-is_epsilon_set-clause-put
returns-then-not-is_epsilon_set-clause-put g c =
    let number = g.T.IndexStorage.number in
    let p = number c.args.pidx.0 in
    let left = left_at (symbol_of number) _ c.loop-symbol.symbol-index c.symbol-item.result _ c.loop-symbol-test.true c.symbol-item.is c.in-Rule.is in
    made_passed_on c.args.grm.now c.args.firsts.now c.requires.of (math.rest c.args.grm.now p c.args.from) c.args.row.now c.or-changed.new.self
    (symbols_behind c.args.grm.now c.args.from (math.body_of c.args.grm.now p) (c.prod.ensures.shape.symbols p)) c.requires.len
    (turn_stop c.args.firsts.now c.loop-symbol.row c.or-changed.new.self _ _ _ (number c.in-Rule.rule.0) c.loop-symbol.invariant.same left
    (sym c.is_epsilon_set.ensures ∙ c.if-not-is_epsilon_set.true) (c.or-changed.ensures.after ∙ ap (union c.loop-symbol.row) c.firsts.ensures))

pub returns-then-not-is_epsilon_set-clause-nullable : goal.returns-then-not-is_epsilon_set-clause-nullable
returns-then-not-is_epsilon_set-clause-nullable g c =
    let number = g.T.IndexStorage.number in
    let left = left_at (symbol_of number) _ c.loop-symbol.symbol-index c.symbol-item.result _ c.loop-symbol-test.true c.symbol-item.is c.in-Rule.is in
    null_stop c.args.grm.now c.args.firsts.now c.requires.of (number c.in-Rule.rule.0) _ _ _ c.loop-symbol.invariant.nullable left
    (sym c.is_epsilon_set.ensures ∙ c.if-not-is_epsilon_set.true)

pub loop-symbol-preserved : goal.loop-symbol-preserved
loop-symbol-preserved g c =
    let number = g.T.IndexStorage.number in
    let left = left_at (symbol_of number) _ c.loop-symbol.symbol-index c.symbol-item.result _ c.loop-symbol-test.true c.symbol-item.is c.in-Rule.is in
    let symbols = rw left at c.loop-symbol.invariant.symbols in
    record {
      same = turn_past c.args.firsts.now c.loop-symbol.row c.or-changed.new.self _ _ _ (number c.in-Rule.rule.0) c.loop-symbol.invariant.same left
          (sym c.is_epsilon_set.ensures ∙ c.if-not-is_epsilon_set.false) (c.or-changed.ensures.after ∙ ap (union c.loop-symbol.row) c.firsts.ensures);
      symbols = symbols.1;
      len = c.or-changed.ensures.len ∙ c.loop-symbol.invariant.len;
      grown = grown_then (math.token_count c.args.grm.now) c.loop-symbol.changed c.or-changed.result (Some c.args.row.now) c.loop-symbol.row c.or-changed.new.self c.loop-symbol.invariant.grown
          (grown_union (math.token_count c.args.grm.now) c.or-changed.result c.loop-symbol.row c.firsts.result.now c.or-changed.new.self c.or-changed.ensures.after c.or-changed.ensures.changed);
      nullable = null_past c.args.grm.now c.args.firsts.now c.requires.of (number c.in-Rule.rule.0) _ _ _ c.loop-symbol.invariant.nullable left
          (sym c.is_epsilon_set.ensures ∙ c.if-not-is_epsilon_set.false);
    }

pub returns-clause-put : goal.returns-clause-put
returns-clause-put g c =
    let number = g.T.IndexStorage.number in
    let p = number c.args.pidx.0 in
    let left = left_none (symbol_of number) _ c.loop-symbol.symbol-index c.loop-symbol-test.false in
    made_passed_on c.args.grm.now c.args.firsts.now c.requires.of (math.rest c.args.grm.now p c.args.from) c.args.row.now _
    (symbols_behind c.args.grm.now c.args.from (math.body_of c.args.grm.now p) (c.prod.ensures.shape.symbols p)) c.requires.len
    (turn_end c.args.firsts.now c.loop-symbol.row _ _ _ c.loop-symbol.invariant.same left refl)

pub returns-clause-nullable : goal.returns-clause-nullable
returns-clause-nullable g c =
    let number = g.T.IndexStorage.number in
    let left = left_none (symbol_of number) _ c.loop-symbol.symbol-index c.loop-symbol-test.false in
    null_end c.args.grm.now _ _ c.loop-symbol.invariant.nullable left

pub set-requires : goal.set-requires
set-requires g c =
    let number = g.T.IndexStorage.number in
    let left = left_at (symbol_of number) _ c.loop-symbol.symbol-index c.symbol-item.result _ c.loop-symbol-test.true c.symbol-item.is c.in-Token.is in
    let symbols = rw left at c.loop-symbol.invariant.symbols in
    omega (arith, symbols.0, c.from.ensures, c.loop-symbol.invariant.len)

pub slice_bounds-symbol-items-count : goal.slice_bounds-symbol-items-count
slice_bounds-symbol-items-count g c = within_body (symbol_of g.T.IndexStorage.number) c.prod.result.now _ c.args.from c.prod.ensures.body c.requires.place

pub offset_bounds-prod-from : goal.offset_bounds-prod-from
offset_bounds-prod-from g c = within_body (symbol_of g.T.IndexStorage.number) c.prod.result.now _ c.args.from c.prod.ensures.body c.requires.place

pub offset_bounds-symbol-items-symbol-index : goal.offset_bounds-symbol-items-symbol-index
offset_bounds-symbol-items-symbol-index g c = c.loop-symbol.auto.symbol-index-end

pub bounds-symbol-items-symbol-index : goal.bounds-symbol-items-symbol-index
bounds-symbol-items-symbol-index g c = c.loop-symbol-test.true

pub prod-requires : goal.prod-requires
prod-requires g c = c.requires.production

pub firsts-requires : goal.firsts-requires
firsts-requires g c =
    let number = g.T.IndexStorage.number in
    let left = left_at (symbol_of number) _ c.loop-symbol.symbol-index c.symbol-item.result _ c.loop-symbol-test.true c.symbol-item.is c.in-Rule.is in
    let symbols = rw left at c.loop-symbol.invariant.symbols in
    omega (arith, symbols.0, c.requires.of)

pub or-changed-requires : goal.or-changed-requires
or-changed-requires g c =
    let number = g.T.IndexStorage.number in
    let left = left_at (symbol_of number) _ c.loop-symbol.symbol-index c.symbol-item.result _ c.loop-symbol-test.true c.symbol-item.is c.in-Rule.is in
    let symbols = rw left at c.loop-symbol.invariant.symbols in
    rw c.firsts.ensures (c.requires.of.bits _ symbols.0.1) ∙ sym c.loop-symbol.invariant.len

pub is_epsilon_set-requires : goal.is_epsilon_set-requires
is_epsilon_set-requires g c =
    let number = g.T.IndexStorage.number in
    let left = left_at (symbol_of number) _ c.loop-symbol.symbol-index c.symbol-item.result _ c.loop-symbol-test.true c.symbol-item.is c.in-Rule.is in
    let symbols = rw left at c.loop-symbol.invariant.symbols in
    omega (arith, symbols.0, c.requires.of)

pub loop-symbol-smaller : goal.loop-symbol-smaller
loop-symbol-smaller g c = falls _ _ c.loop-symbol-test.true

pub slice_bounds-symbol-items-start : goal.slice_bounds-symbol-items-start
slice_bounds-symbol-items-start g c = within_body (symbol_of g.T.IndexStorage.number) c.prod.result.now _ c.args.from c.prod.ensures.body c.requires.place

pub returns-in-Token-clause-changed : goal.returns-in-Token-clause-changed
returns-in-Token-clause-changed g c =
    let number = g.T.IndexStorage.number in
    let k = math.token_count c.args.grm.now in
    let left = left_at (symbol_of number) _ c.loop-symbol.symbol-index c.symbol-item.result _ c.loop-symbol-test.true c.symbol-item.is c.in-Token.is in
    let symbols = rw left at c.loop-symbol.invariant.symbols in
    let within : c.from.result < length c.loop-symbol.row = omega (arith, symbols.0, c.from.ensures, c.loop-symbol.invariant.len) in
    grown_before k c.loop-symbol.changed c.set.result (Some c.args.row.now) c.loop-symbol.row c.set.new.self c.loop-symbol.invariant.grown
    (grown_set k c.set.result c.loop-symbol.row c.set.new.self c.from.result within c.set.ensures.after c.set.ensures.changed)

pub returns-then-not-is_epsilon_set-clause-changed : goal.returns-then-not-is_epsilon_set-clause-changed
returns-then-not-is_epsilon_set-clause-changed g c =
    let k = math.token_count c.args.grm.now in
    grown_then k c.loop-symbol.changed c.or-changed.result (Some c.args.row.now) c.loop-symbol.row c.or-changed.new.self c.loop-symbol.invariant.grown
    (grown_union k c.or-changed.result c.loop-symbol.row c.firsts.result.now c.or-changed.new.self c.or-changed.ensures.after c.or-changed.ensures.changed)

pub returns-clause-changed : goal.returns-clause-changed
returns-clause-changed g c = c.loop-symbol.invariant.grown
