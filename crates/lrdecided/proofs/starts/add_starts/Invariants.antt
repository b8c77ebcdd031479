-- the nodes of the sides so far are there
use Rattle.std.proofs.Common.{drop}
use Rattle.lrdecided.specs.Moved.{HasNodes}
use Rattle.lrdecided.specs.StoredNodes.{side_of, sides_of, states_of, nodes_of}
use Rattle.lrdecided.proofs.FoundStarts.{HasStartsBut}
use Rattle.lrdecided.proofs.starts.add_starts.Given as goal

abbrev pub invariant-loop-other : goal.invariant-loop-other
invariant-loop-other l =
    record {
      kept : HasNodes (nodes_of l.fn.starts.items) (nodes_of l.starts.items);
      so_far :
          HasStartsBut (side_of l.one) (sides_of l.others) (sides_of (drop l.other-index l.others)) (states_of l.states) l.token.0 l.left
          (nodes_of l.starts.items);
    }
