-- those at the places so far are won
use Rattle.lrexchange.specs.StoredPositions.{positions_of}
use Rattle.lrexchange.specs.Asked.{AreWonBelow}
use Rattle.lrkept.proofs.checking.are_won.Given as goal

abbrev pub invariant-loop-place : goal.invariant-loop-place
invariant-loop-place l =
    AreWonBelow l.grm l.graph (positions_of l.listing.positions.items) l.place
