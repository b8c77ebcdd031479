-- the place is that of the node
use Rattle.lrdecided.proofs.listing.Listing.has.Goals as goal

pub returns-then-is_at : goal.returns-then-is_at
returns-then-is_at c = λ t. rw c.as_slice.ensures.value at (c.is_at.ensures c.if-is_at.true)
