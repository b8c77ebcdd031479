-- the rest leads from the state where all lead
use Rattle.std.proofs.Common.{drop}
use Rattle.lrexchange.specs.StoredPositions.{symbols_of}
use Rattle.lrexchange.proofs.ToppedStacks.{LeadsOn}
use Rattle.lrexchange.proofs.tops.end_of.Given as goal

abbrev pub invariant-loop-symbol : goal.invariant-loop-symbol
invariant-loop-symbol l =
    LeadsOn l.graph l.fn.from.0 (symbols_of l.symbols) l.state.0 (symbols_of (drop l.symbol-index l.symbols))
