-- the states that are reached are states of the graph
use Rattle.std.proofs.Common.{◌≡◌, ◌<◌, length}
use Rattle.std.specs.Prelude.{All}
use Rattle.lrsearches.proofs.ways.distances.Given as goal

abbrev pub invariant-loop-turn : goal.invariant-loop-turn
invariant-loop-turn g l = record {
  states : length l.distances.items ≡ length l.graph;
  within : All (λ e. g.T.IndexStorage.number e.0.0 < length l.graph) l.reached.items;
}
