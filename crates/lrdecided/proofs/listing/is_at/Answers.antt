-- the node at the place is the same
use Rattle.lrdecided.specs.StoredNodes.{node_of}
use Rattle.lrdecided.proofs.SameNodes.{is_listed}
use Rattle.lrdecided.proofs.listing.is_at.Goals as goal

pub returns-then-place-nodes : goal.returns-then-place-nodes
returns-then-place-nodes c = λ t.
    is_listed node_of c.args.nodes.now c.args.place c.index-nodes-place.result _ c.if-place-nodes.true c.index-nodes-place.is (c.is_same_node.ensures t)
