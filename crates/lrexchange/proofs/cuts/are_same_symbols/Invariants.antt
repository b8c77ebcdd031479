-- those so far are the same
use Rattle.std.proofs.Common.{◌≡◌, take}
use Rattle.lrexchange.specs.StoredPositions.{symbols_of}
use Rattle.lrexchange.proofs.cuts.are_same_symbols.Given as goal

abbrev pub invariant-loop-i : goal.invariant-loop-i
invariant-loop-i l =
    symbols_of (take l.i l.a) ≡ symbols_of (take l.i l.b)
