-- a turn for each node
use Rattle.lrdecided.specs.Rules.{IsSettled}
use Rattle.lrdecided.specs.StoredNodes.{node_of, nodes_of}
use Rattle.lrdecided.proofs.SameNodes.{all_more, all_of}
use Rattle.lrdecided.proofs.checking.are_settled.Goals as goal

pub loop-node-preserved : goal.loop-node-preserved
loop-node-preserved c =
    all_more node_of (IsSettled c.args.grm.now (nodes_of c.args.listing.now.nodes.items)) c.args.nodes.now c.loop-node.node-index c.node-item.result
    c.loop-node-test.true c.node-item.is c.loop-node.invariant (c.in_ok-is_settled.ensures c.if-not-branch.false)

pub returns : goal.returns
returns c = λ t.
    all_of node_of (IsSettled c.args.grm.now (nodes_of c.args.listing.now.nodes.items)) c.args.nodes.now c.loop-node.node-index c.loop-node-test.false c.loop-node.invariant
