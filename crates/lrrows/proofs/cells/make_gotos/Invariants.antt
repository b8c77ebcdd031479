-- the entries of the edges so far, and those of the edges left
use Rattle.std.proofs.Common.{◌≡◌, ◌++◌}
use Rattle.lrspec.specs.merging.Graph as math
use Rattle.lrgraphs.specs.GraphOf.{edges_of}
use Rattle.lrrows.proofs.GotoEntries.{goto_entries}
use Rattle.lrrows.proofs.cells.make_gotos.Given as goal

abbrev pub invariant-loop-symbol : goal.invariant-loop-symbol
invariant-loop-symbol g l =
    let number = g.T.IndexStorage.number in
    l.entries.items ++ goto_entries (edges_of number (λ u. number u.0) l.symbol-iterator)
    ≡ goto_entries (math.edges_of l.sg (number l.fn.stidx.0))
