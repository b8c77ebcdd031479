-- a turn for each symbol
use Rattle.std.proofs.Common.{map, drop, ◌+◌}
use Rattle.lrgrammar.specs.Symbols.{symbol_of, number_of}
use Rattle.lrclosing.proofs.NullableRests.{null_end}
use Rattle.lrclosing.proofs.SymbolsBehindDots.{left_none}
use Rattle.lrdecided.proofs.CollectedInTurn.{left_there}
use Rattle.lrkept.proofs.NullableLists.{null_next, null_stop}
use Rattle.lrexchange.proofs.Tests.{test_fails}
use Rattle.lrkept.proofs.alone.are_nullable.Goals as goal

pub returns-then-not-is_nullable : goal.returns-then-not-is_nullable
returns-then-not-is_nullable c =
    let f = symbol_of number_of in
    let i = c.loop-symbol.symbol-index in
    let xs = c.args.symbols.now in
    null_stop c.args.grm.now _ (map f (drop i xs)) (map f (drop (i + 1) xs)) (map f xs) (left_there f xs i _ c.loop-symbol-test.true)
    (test_fails c.is_nullable.result c.is_nullable.ensures c.if-not-is_nullable.true) c.loop-symbol.invariant

pub loop-symbol-preserved : goal.loop-symbol-preserved
loop-symbol-preserved c =
    let f = symbol_of number_of in
    let i = c.loop-symbol.symbol-index in
    let xs = c.args.symbols.now in
    null_next c.args.grm.now _ (map f (drop i xs)) (map f (drop (i + 1) xs)) (map f xs) (left_there f xs i _ c.loop-symbol-test.true)
    (c.is_nullable.ensures.0 c.if-not-is_nullable.false) c.loop-symbol.invariant

pub returns : goal.returns
returns c =
    let f = symbol_of number_of in
    let i = c.loop-symbol.symbol-index in
    let xs = c.args.symbols.now in
    null_end c.args.grm.now (map f (drop i xs)) (map f xs) c.loop-symbol.invariant (left_none f xs i c.loop-symbol-test.false)
