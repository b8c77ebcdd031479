-- the nodes so far are settled
use Rattle.std.proofs.Common.{take}
use Rattle.std.specs.Prelude.{All}
use Rattle.lrdecided.specs.Rules.{IsSettled}
use Rattle.lrdecided.specs.StoredNodes.{node_of, nodes_of}
use Rattle.lrdecided.proofs.checking.are_settled.Given as goal

abbrev pub invariant-loop-node : goal.invariant-loop-node
invariant-loop-node l =
    All (λ a. IsSettled l.grm (nodes_of l.listing.nodes.items) (node_of a)) (take l.node-index l.nodes)
