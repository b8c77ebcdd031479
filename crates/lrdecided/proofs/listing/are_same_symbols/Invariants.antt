-- those so far are the same
use Rattle.std.proofs.Common.{◌≡◌, take}
use Rattle.lrdecided.specs.StoredNodes.{symbols_of}
use Rattle.lrdecided.proofs.listing.are_same_symbols.Given as goal

abbrev pub invariant-loop-i : goal.invariant-loop-i
invariant-loop-i l =
    symbols_of (take l.i l.a) ≡ symbols_of (take l.i l.b)
