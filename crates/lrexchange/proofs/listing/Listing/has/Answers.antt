-- what it sinks to
use Rattle.lrexchange.specs.StoredPositions.{position_of, positions_of}
use Rattle.lrexchange.proofs.SunkPositions.{sinks_itself}
use Rattle.lrexchange.proofs.WonPositions.{sunk_is_listed}
use Rattle.lrexchange.proofs.listing.Listing.has.Goals as goal

pub returns-in-Some : goal.returns-in-Some
returns-in-Some c = λ t.
    sunk_is_listed c.args.graph.now (positions_of c.args.self.now.positions.items) c.args.bound (position_of c.args.position.now)
    (position_of c.in-Some.below) (rw c.in-Some.is at c.in_ok-low.ensures) (c.has_sunk.ensures t)

pub returns-in-None : goal.returns-in-None
returns-in-None c = λ t.
    let a = position_of c.args.position.now in
    sunk_is_listed c.args.graph.now (positions_of c.args.self.now.positions.items) c.args.bound a a (sinks_itself c.args.graph.now a) (c.has_sunk-in-None.ensures t)
