-- by what is left behind as many
use Rattle.std.proofs.Common.{◌≡◌, ◌+◌, ◌-◌, ◌≤◌, length, refl, sym, ◌∙◌, arith}
use Rattle.std.proofs.lemmas.List.{length-map}
use Rattle.lrclosing.proofs.SymbolsBehindDots.{sliced}
use Rattle.lrgrammar.specs.Symbols.{symbol_of, number_of}
use Rattle.lrexchange.specs.StoredPositions.{symbols_of}
use Rattle.lrexchange.proofs.CutStacks.{no_other_end, ends_so}
use Rattle.lrexchange.proofs.Tests.{test_fails}
use Rattle.lrexchange.proofs.cuts.before_end.Goals as goal

pub returns-then-not-are_same_symbols-clause-ends : goal.returns-then-not-are_same_symbols-clause-ends
returns-then-not-are_same_symbols-clause-ends c =
    let stack = symbols_of c.args.stack.now in
    let end = symbols_of c.args.end.now in
    let n = length c.args.stack.now - length c.args.end.now in
    let all : n + length end ≡ length stack =
    omega (arith, c.if-end-stack.false, length-map c.args.stack.now (symbol_of number_of), length-map c.args.end.now (symbol_of number_of)) in
    no_other_end stack end n all
    (λ e. test_fails c.are_same_symbols.result c.are_same_symbols.ensures c.if-not-are_same_symbols.true (sliced (symbol_of number_of) c.args.stack.now n stack refl ∙ e))

pub returns-clause-ends : goal.returns-clause-ends
returns-clause-ends c =
    let stack = symbols_of c.args.stack.now in
    let end = symbols_of c.args.end.now in
    let n = length c.args.stack.now - length c.args.end.now in
    let within : n ≤ length stack = omega (arith, length-map c.args.stack.now (symbol_of number_of)) in
    ends_so stack end n within (sym (sliced (symbol_of number_of) c.args.stack.now n stack refl) ∙ c.are_same_symbols.ensures.0 c.if-not-are_same_symbols.false)
