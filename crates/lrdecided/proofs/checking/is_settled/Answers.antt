-- it comes to a listed one, or is impossible
use Rattle.lrdecided.specs.StoredNodes.{nodes_of}
use Rattle.lrdecided.proofs.checking.is_settled.Goals as goal

pub returns-in-Some : goal.returns-in-Some
returns-in-Some c = λ t.
    (rw c.in-Some.is at c.in_ok-to.ensures) (nodes_of c.args.listing.now.nodes.items) (c.has.ensures t)

pub returns-in-None : goal.returns-in-None
returns-in-None c = λ t.
    (rw c.in-None.is at c.in_ok-to.ensures) (nodes_of c.args.listing.now.nodes.items)
