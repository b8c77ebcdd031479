-- positions are added
use Rattle.lrexchange.specs.Asked.{AddsPositions}
use Rattle.lrexchange.specs.StoredPositions.{positions_of}
use Rattle.lrkept.proofs.search.add_all_won.Given as goal

abbrev pub invariant-loop-one : goal.invariant-loop-one
invariant-loop-one l =
    AddsPositions (positions_of l.fn.certificate.listing.positions.items) (positions_of l.certificate.listing.positions.items)
