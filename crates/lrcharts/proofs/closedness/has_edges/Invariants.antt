-- the symbols of the edges so far are leaves
use Rattle.std.proofs.Common.{◌+◌}
use Rattle.lrgraphs.specs.GraphOf.{edges_of}
use Rattle.lrgrammar.specs.Symbols.{number_of}
use Rattle.lrcharts.specs.Charts.{HasSpan}
use Rattle.lrcharts.proofs.LeavesInTurn.{EdgesLeft}
use Rattle.lrcharts.proofs.closedness.has_edges.Given as goal

abbrev pub invariant-loop-symbol : goal.invariant-loop-symbol
invariant-loop-symbol l =
    EdgesLeft l.graph l.fn.from.0 l.to.0 (λ x. HasSpan l.chart x l.place (l.place + 1)) (edges_of number_of (λ u. number_of u.0) l.symbol-iterator)
