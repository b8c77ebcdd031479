-- those so far are listed
use Rattle.std.proofs.Common.{drop}
use Rattle.lrexchange.specs.Exchanges.{IsListed}
use Rattle.lrexchange.specs.StoredPositions.{positions_of}
use Rattle.lrexchange.proofs.AskedInTurn.{AllBut}
use Rattle.lrkept.proofs.checking.are_listed.Given as goal

abbrev pub invariant-loop-position : goal.invariant-loop-position
invariant-loop-position l =
    AllBut (λ a. IsListed l.graph (positions_of l.listing.positions.items) l.bound a) (positions_of l.positions)
    (positions_of (drop l.position-index l.positions))
