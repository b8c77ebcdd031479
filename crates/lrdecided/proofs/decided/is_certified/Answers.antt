-- the listed nodes certify it
use Rattle.lrdecided.specs.StoredNodes.{nodes_of}
use Rattle.lrdecided.proofs.CertifiedEntries.{certifies}
use Rattle.lrdecided.proofs.decided.is_certified.Goals as goal

pub returns : goal.returns
returns c = λ t.
    certifies c.args.grm.now c.args.graph.now _ c.args.left _ (nodes_of c.in-Some-2.listing.nodes.items) (rw c.in-Some.is at c.in_ok-starts.ensures)
    (rw c.as_slice-2.ensures.value at (c.in_ok-are_settled.ensures c.if-not-branch.false)) (c.in_ok-all_proceed.ensures c.if-not-branch-2.false)
