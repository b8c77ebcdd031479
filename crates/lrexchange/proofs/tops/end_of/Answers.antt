-- a turn for each symbol
use Rattle.std.proofs.Common.{subst}
use Rattle.lrgrammar.specs.Symbols.{symbol_of, number_of}
use Rattle.lrclosing.proofs.SymbolsBehindDots.{left_none}
use Rattle.lrdecided.proofs.CollectedInTurn.{left_there}
use Rattle.lrexchange.specs.StoredPositions.{symbols_of}
use Rattle.lrexchange.proofs.ToppedStacks.{LeadsOn, begin_leading, next_leading, no_lead, end_leading}
use Rattle.lrexchange.proofs.tops.end_of.Goals as goal

pub loop-symbol-init : goal.loop-symbol-init
loop-symbol-init c =
    begin_leading c.args.graph.now c.args.from.0 (symbols_of c.args.symbols.now)

pub loop-symbol-preserved : goal.loop-symbol-preserved
loop-symbol-preserved c =
    let xs = c.args.symbols.now in
    next_leading c.args.graph.now c.args.from.0 (symbols_of xs) c.loop-symbol.state.0 c.in-Some.next.0 _ _
    (subst (LeadsOn c.args.graph.now c.args.from.0 (symbols_of xs) c.loop-symbol.state.0)
    (left_there (symbol_of number_of) xs c.loop-symbol.symbol-index _ c.loop-symbol-test.true) c.loop-symbol.invariant)
    c.in-Some.ensures

pub returns-in_default : goal.returns-in_default
returns-in_default c =
    let xs = c.args.symbols.now in
    no_lead c.args.graph.now c.args.from.0 (symbols_of xs) c.loop-symbol.state.0 _ _
    (subst (LeadsOn c.args.graph.now c.args.from.0 (symbols_of xs) c.loop-symbol.state.0)
    (left_there (symbol_of number_of) xs c.loop-symbol.symbol-index _ c.loop-symbol-test.true) c.loop-symbol.invariant)
    c.in_default.ensures

pub returns : goal.returns
returns c =
    end_leading c.args.graph.now c.args.from.0 (symbols_of c.args.symbols.now) c.loop-symbol.state.0 _
    (left_none (symbol_of number_of) c.args.symbols.now c.loop-symbol.symbol-index c.loop-symbol-test.false) c.loop-symbol.invariant
