use Rattle.std.proofs.Common.{◌≡◌}
use Rattle.lrclosing.specs.ItemsOf.{items_of, listed_of}
use Rattle.lrclosing.specs.Closer.{rows_of}
use Rattle.lrclosing.specs.Listing.{listed_items}
use Rattle.lrclosing.proofs.AscendingItems.{ascending_from_upwards}
use Rattle.lrclosing.proofs.ListedItems.{AreClosed, are_closed}
use Rattle.lrclosing.proofs.RowsWritten.{are_rows}
use Rattle.lrclosing.proofs.listing.closed_items.Given as given
use Rattle.lrclosing.proofs.listing.closed_items.Goals as goal
use Rattle.lrclosing.proofs.listing.closed_items.Goals.{In_ok-push_closed}

pub push_closed-requires-clause-rows : goal.push_closed-requires-clause-rows
push_closed-requires-clause-rows g c = rw c.as_slice-rows.ensures.value c.requires.is.is.rows

pub push_closed-requires-clause-productions : goal.push_closed-requires-clause-productions
push_closed-requires-clause-productions g c = rw c.as_slice-rows.ensures.value c.in_ok-productions.ensures

closed : (g : given.Over) (c : In_ok-push_closed g)
    → AreClosed c.args.grm.now (rows_of c.args.closer.now) (items_of g.T.IndexStorage.number c.args.given.now)
    (listed_of g.T.IndexStorage.number c.push_closed.new.items.items)
closed g c =
    let number = g.T.IndexStorage.number in
    let grm = c.args.grm.now in
    let rows = rows_of c.args.closer.now in
    let es = items_of number c.args.given.now in
    let listed : listed_of number c.push_closed.new.items.items ≡ listed_items grm rows 0 es =
    rw (c.in_ok-items.ensures.items, c.as_slice-rows.ensures.value) at c.in_ok-push_closed.ensures in
    are_closed grm rows es c.requires.fits (are_rows grm c.args.closer.now.rows.items c.requires.is.is.rows) (ascending_from_upwards es c.requires.upwards)
    c.requires.apart _ listed

pub returns-clause-rows : goal.returns-clause-rows
returns-clause-rows g c = (closed g (goal.at.returns-clause-rows g c).In_ok-push_closed).rows

pub returns-clause-fits : goal.returns-clause-fits
returns-clause-fits g c = (closed g (goal.at.returns-clause-fits g c).In_ok-push_closed).fits

pub returns-clause-upwards : goal.returns-clause-upwards
returns-clause-upwards g c = (closed g (goal.at.returns-clause-upwards g c).In_ok-push_closed).upwards
