-- a turn for each node
use Rattle.lrdecided.specs.Rules.{IsSettled, Proceeds}
use Rattle.lrdecided.specs.StoredNodes.{node_of, nodes_of}
use Rattle.lrdecided.proofs.SameNodes.{all_more, all_of}
use Rattle.lrdecided.proofs.checking.all_proceed.Goals as goal

pub loop-node-preserved : goal.loop-node-preserved
loop-node-preserved c =
    let nodes = c.args.listing.now.nodes.items in
    all_more node_of (Proceeds c.args.grm.now c.args.graph.now (IsSettled c.args.grm.now (nodes_of nodes))) nodes c.loop-node.node-index c.node-item.result
    (rw c.deref-node-items.ensures.value at c.loop-node-test.true) (rw c.deref-node-items.ensures.value at c.node-item.is) c.loop-node.invariant (c.in_ok-proceeds.ensures c.if-not-branch.false)

pub returns : goal.returns
returns c = λ t.
    let nodes = c.args.listing.now.nodes.items in
    all_of node_of (Proceeds c.args.grm.now c.args.graph.now (IsSettled c.args.grm.now (nodes_of nodes))) nodes c.loop-node.node-index (rw c.deref-node-items.ensures.value at c.loop-node-test.false) c.loop-node.invariant
