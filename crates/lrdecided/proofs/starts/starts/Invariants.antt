-- the nodes of the sides so far are there
use Rattle.std.proofs.Common.{drop}
use Rattle.lrdecided.specs.StoredNodes.{sides_of, states_of, nodes_of}
use Rattle.lrdecided.proofs.FoundStarts.{HasAllStartsBut}
use Rattle.lrdecided.proofs.starts.starts.Given as goal

abbrev pub invariant-loop-one : goal.invariant-loop-one
invariant-loop-one l =
    HasAllStartsBut (sides_of l.ones) (sides_of (drop l.one-index l.ones)) (sides_of l.others) (states_of l.states) l.token.0 l.left
    (nodes_of l.starts.items)
