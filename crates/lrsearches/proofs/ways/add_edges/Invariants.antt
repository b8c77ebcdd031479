-- the edges so far are added
use Rattle.lrspec.specs.merging.Graph.{edge}
use Rattle.lrgraphs.specs.GraphOf.{edges_of}
use Rattle.lrgraphs.proofs.FoundEdges.{FoundAll}
use Rattle.lrsearches.proofs.RowsInTurn.{AreAdding}
use Rattle.lrsearches.proofs.ways.add_edges.Given as goal

abbrev pub invariant-loop-symbol : goal.invariant-loop-symbol
invariant-loop-symbol g l =
    let number = g.T.IndexStorage.number in
    let s = number l.fn.stidx.0 in
    record {
      found : FoundAll number (λ v. edge l.graph s v) l.symbol-iterator;
      adding : AreAdding number l.graph s l.fn.incoming.items l.incoming.items (edges_of number (λ u. number u.0) l.symbol-iterator);
    }
