-- a move from each of the nodes so far is there
use Rattle.std.proofs.Common.{take}
use Rattle.std.specs.Prelude.{All}
use Rattle.lrdecided.specs.Rules.{IsSettled, Proceeds}
use Rattle.lrdecided.specs.StoredNodes.{node_of, nodes_of}
use Rattle.lrdecided.proofs.checking.all_proceed.Given as goal

abbrev pub invariant-loop-node : goal.invariant-loop-node
invariant-loop-node l =
    All (λ a. Proceeds l.grm l.graph (IsSettled l.grm (nodes_of l.listing.nodes.items)) (node_of a)) (take l.node-index l.listing.nodes.items)
