-- those of the states so far are kept
use Rattle.std.proofs.Common.{drop}
use Rattle.lrdecided.specs.StoredNodes.{states_of}
use Rattle.lrdecided.proofs.CollectedInTurn.{HasKept}
use Rattle.lrdecided.proofs.states.states_with_item.Given as goal

abbrev pub invariant-loop-state : goal.invariant-loop-state
invariant-loop-state l =
    HasKept l.graph l.item.0.0 l.item.1.0 (states_of l.states) (states_of (drop l.state-index l.states)) (states_of l.kept.items)
