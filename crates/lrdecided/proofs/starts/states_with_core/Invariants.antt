-- those of the states so far are listed
use Rattle.lrdecided.specs.StoredNodes.{states_of}
use Rattle.lrdecided.proofs.FoundStarts.{HasCoresBelow}
use Rattle.lrdecided.proofs.starts.states_with_core.Given as goal

abbrev pub invariant-loop-number : goal.invariant-loop-number
invariant-loop-number l =
    HasCoresBelow l.graph l.fn.state.0 l.number (states_of l.states.items)
