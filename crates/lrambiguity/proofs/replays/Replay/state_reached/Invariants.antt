use Rattle.std.proofs.Common.{map, take}
use Rattle.lrgrammar.specs.Symbols.{symbol_of}
use Rattle.lrspec.specs.merging.Graph.{Leads}
use Rattle.lrambiguity.proofs.replays.Replay.state_reached.Given as goal

abbrev pub invariant-loop-root : goal.invariant-loop-root
invariant-loop-root g l =
    let number = g.T.IndexStorage.number in
    Leads l.graph (map (symbol_of number) (take l.root-index l.self.roots.items)) (number l.state.0)
