-- a turn for each symbol
use Rattle.std.proofs.Common.{arith}
use Rattle.lrgrammar.specs.Symbols.{symbol_of, number_of}
use Rattle.lrdecided.proofs.SameNodes.{same_more, same_all}
use Rattle.lrexchange.proofs.CutStacks.{same_there}
use Rattle.lrexchange.proofs.Tests.{test_fails, so, not_so}
use Rattle.lrexchange.proofs.cuts.are_same_symbols.Goals as goal

pub loop-i-preserved : goal.loop-i-preserved
loop-i-preserved c =
    same_more (symbol_of number_of) c.args.a.now c.args.b.now c.loop-i.i _ _ (omega arith) (omega arith) c.loop-i.invariant
    (c.is_same_symbol.ensures.0 c.if-not-is_same_symbol.false)

pub returns : goal.returns
returns c =
    so (same_all (symbol_of number_of) c.args.a.now c.args.b.now c.loop-i.i (omega arith) (omega arith) c.loop-i.invariant)

pub returns-then-not-is_same_symbol : goal.returns-then-not-is_same_symbol
returns-then-not-is_same_symbol c =
    not_so (λ e. test_fails c.is_same_symbol.result c.is_same_symbol.ensures c.if-not-is_same_symbol.true
    (same_there (symbol_of number_of) c.args.a.now c.args.b.now c.loop-i.i _ _ e (omega arith) (omega arith)))
