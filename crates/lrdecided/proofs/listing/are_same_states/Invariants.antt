-- those so far are the same
use Rattle.std.proofs.Common.{◌≡◌, take}
use Rattle.lrdecided.specs.StoredNodes.{states_of}
use Rattle.lrdecided.proofs.listing.are_same_states.Given as goal

abbrev pub invariant-loop-i : goal.invariant-loop-i
invariant-loop-i l =
    states_of (take l.i l.a) ≡ states_of (take l.i l.b)
