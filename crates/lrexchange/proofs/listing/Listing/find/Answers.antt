-- the place is that of the position
use Rattle.lrexchange.proofs.listing.Listing.find.Goals as goal

pub returns-then-is_at : goal.returns-then-is_at
returns-then-is_at c = rw c.as_slice.ensures.value at (c.is_at.ensures c.if-is_at.true)
