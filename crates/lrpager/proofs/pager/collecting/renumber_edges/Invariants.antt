use Rattle.std.proofs.Common.{◌≡◌, ◌++◌, drop, slice_index}
use Rattle.lrgraphs.specs.GraphOf.{edges_of}
use Rattle.lrpager.proofs.RenumberedEdges.{renumbered}
use Rattle.lrpager.proofs.pager.collecting.renumber_edges.Given as goal

abbrev pub invariant-loop-symbol : goal.invariant-loop-symbol
invariant-loop-symbol g l =
    let number = g.T.IndexStorage.number in
    let shown = edges_of number (λ u. u) in
    let f = slice_index l.numbers in
    edges_of number (λ u. number u.0) l.pairs.items ++ renumbered f (shown (drop l.symbol-index l.edges)) ≡ renumbered f (shown l.edges)
