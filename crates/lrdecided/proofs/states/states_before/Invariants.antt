-- the states before those so far are listed
use Rattle.std.proofs.Common.{drop}
use Rattle.lrdecided.specs.StoredNodes.{states_of}
use Rattle.lrdecided.specs.StoredStates.{AreSeen}
use Rattle.lrdecided.proofs.CollectedInTurn.{HasBeforeSo}
use Rattle.lrdecided.proofs.states.states_before.Given as goal

abbrev pub invariant-loop-state : goal.invariant-loop-state
invariant-loop-state l =
    record {
      seen : AreSeen l.seen (states_of l.before.items);
      before : HasBeforeSo l.graph (states_of l.states) (states_of (drop l.state-index l.states)) (states_of l.before.items);
    }
