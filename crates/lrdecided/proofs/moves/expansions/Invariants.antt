-- the nodes of the productions so far are there
use Rattle.std.proofs.Common.{map}
use Rattle.lrdecided.specs.StoredNodes.{node_of, nodes_of}
use Rattle.lrdecided.proofs.FoundMoves.{HasFirst}
use Rattle.lrdecided.proofs.moves.expansions.Given as goal

abbrev pub invariant-loop-pidx : goal.invariant-loop-pidx
invariant-loop-pidx l =
    HasFirst l.grm (node_of l.node) (map (λ p. p.0) l.pidx-items) l.pidx-index (nodes_of l.moves.items)
