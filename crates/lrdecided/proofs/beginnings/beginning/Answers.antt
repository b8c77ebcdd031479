-- a turn for each symbol
use Rattle.std.proofs.Common.{ℕ, Bool, true, ◌||◌, List, set, ap, sym, ◌∙◌, arith}
use Rattle.std.proofs.lemmas.List.{get_or_default}
use Rattle.lrbits.specs.Bits.{bit}
use Rattle.lrgrammar.specs.Symbols.{symbol_of, number_of}
use Rattle.lrclosing.proofs.SymbolsBehindDots.{left_at}
use Rattle.lrdecided.proofs.BeginningsInTurn.{token_begun, rule_begun, rule_past}
use Rattle.lrdecided.proofs.beginnings.beginning.Goals as goal

pub returns-in-Token : goal.returns-in-Token
returns-in-Token c =
    let left = left_at (symbol_of number_of) c.args.symbols.now c.loop-symbol.symbol-index _ _ c.loop-symbol-test.true (get_or_default c.args.symbols.now c.loop-symbol.symbol-index _ _ c.loop-symbol-test.true) c.in-Token.is in
    let begun = rw left at c.loop-symbol.invariant in
    token_begun begun (omega (arith, c.if-token-len.false, c.len.ensures.number, c.from-token.ensures)) _
    (c.set.ensures.after ∙ ap (λ (n : ℕ). set c.loop-symbol.tokens n true) c.from-token.ensures)

pub returns-then-not-is_epsilon_set : goal.returns-then-not-is_epsilon_set
returns-then-not-is_epsilon_set c =
    let left = left_at (symbol_of number_of) c.args.symbols.now c.loop-symbol.symbol-index _ _ c.loop-symbol-test.true (get_or_default c.args.symbols.now c.loop-symbol.symbol-index _ _ c.loop-symbol-test.true) c.in-Rule.is in
    let begun = rw left at c.loop-symbol.invariant in
    rule_begun c.args.firsts.now c.requires begun _ c.or.ensures.len
    (λ (i : ℕ). c.or.ensures.each i ∙ ap (λ (v : List Bool). bit c.loop-symbol.tokens i || bit v i) c.firsts.ensures)
    (sym c.is_epsilon_set.ensures ∙ c.if-not-is_epsilon_set.true)

pub loop-symbol-preserved : goal.loop-symbol-preserved
loop-symbol-preserved c =
    let left = left_at (symbol_of number_of) c.args.symbols.now c.loop-symbol.symbol-index _ _ c.loop-symbol-test.true (get_or_default c.args.symbols.now c.loop-symbol.symbol-index _ _ c.loop-symbol-test.true) c.in-Rule.is in
    let begun = rw left at c.loop-symbol.invariant in
    rule_past c.args.firsts.now c.requires begun _ c.or.ensures.len
    (λ (i : ℕ). c.or.ensures.each i ∙ ap (λ (v : List Bool). bit c.loop-symbol.tokens i || bit v i) c.firsts.ensures)
