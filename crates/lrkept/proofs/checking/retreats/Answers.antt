-- what is asked is listed before
use Rattle.std.proofs.lemmas.Result.{IfOk-weaker}
use Rattle.lrexchange.specs.StoredPositions.{position_of, positions_of}
use Rattle.lrexchange.proofs.WonPositions.{retreats_to_listed}
use Rattle.lrkept.proofs.checking.retreats.Goals as goal

pub returns-in-Some : goal.returns-in-Some
returns-in-Some c =
    IfOk-weaker c.are_listed.result _ _
    (λ b k t.
    retreats_to_listed c.args.grm.now c.args.graph.now (positions_of c.args.listing.now.positions.items) c.args.place (positions_of c.in-Some.asked.items)
    (position_of c.args.position.now) (rw c.in-Some.is at c.in_ok-asked.ensures) (rw c.as_slice.ensures.value at (k t)))
    c.are_listed.ensures
