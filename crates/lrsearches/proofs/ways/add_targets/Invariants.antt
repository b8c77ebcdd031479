-- the states that are reached are states of the graph
use Rattle.std.proofs.Common.{◌≡◌, ◌<◌, length}
use Rattle.std.specs.Prelude.{All}
use Rattle.lrspec.specs.merging.Graph.{edge}
use Rattle.lrgraphs.proofs.FoundEdges.{FoundAll}
use Rattle.lrsearches.proofs.ways.add_targets.Given as goal

abbrev pub invariant-loop-target : goal.invariant-loop-target
invariant-loop-target g l =
    let number = g.T.IndexStorage.number in
    record {
      found : FoundAll number (λ v. edge l.graph (number l.fn.from.0.0) v) l.target-iterator;
      states : length l.distances.items ≡ length l.graph;
      within : All (λ e. number e.0.0 < length l.graph) l.reached.items;
    }
