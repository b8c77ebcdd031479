-- a turn for each symbol
use Rattle.std.proofs.Common.{arith}
use Rattle.lrgrammar.specs.Symbols.{symbol_of, number_of}
use Rattle.lrdecided.proofs.SameNodes.{same_more, same_all}
use Rattle.lrdecided.proofs.listing.are_same_symbols.Goals as goal

pub loop-i-preserved : goal.loop-i-preserved
loop-i-preserved c =
    same_more (symbol_of number_of) c.args.a.now c.args.b.now c.loop-i.i _ _ (omega arith) (omega arith) c.loop-i.invariant
    (c.is_same_symbol.ensures.0 c.if-not-is_same_symbol.false)

pub returns : goal.returns
returns c = λ t.
    same_all (symbol_of number_of) c.args.a.now c.args.b.now c.loop-i.i (omega arith) (omega arith) c.loop-i.invariant
