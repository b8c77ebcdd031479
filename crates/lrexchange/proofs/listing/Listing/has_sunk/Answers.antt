-- the same, or found
use Rattle.std.proofs.Common.{inl}
use Rattle.std.proofs.lemmas.Bool.{ltb-true}
use Rattle.lrexchange.specs.StoredPositions.{position_of, positions_of}
use Rattle.lrexchange.proofs.WonPositions.{found_among}
use Rattle.lrexchange.proofs.listing.Listing.has_sunk.Goals as goal

pub returns-then-is_same : goal.returns-then-is_same
returns-then-is_same c = λ t. inl (c.is_same.ensures c.if-is_same.true)

pub returns-in-Some : goal.returns-in-Some
returns-in-Some c = λ t.
    found_among (positions_of c.args.self.now.positions.items) c.args.bound c.in-Some.place (position_of c.args.position.now)
    (ltb-true _ _ t) (rw c.in-Some.is at c.find.ensures)
