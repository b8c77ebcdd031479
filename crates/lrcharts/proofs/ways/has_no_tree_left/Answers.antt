use Rattle.lrcharts.proofs.WaysOn.{no_tree_left}
use Rattle.lrcharts.proofs.ways.has_no_tree_left.Goals as goal

pub returns : goal.returns
returns c = λ is.
    no_tree_left c.args.grm.now c.args.graph.now c.args.table.now c.in_order.ensures.shape c.requires.graph c.requires.table c.args.text.now c.args.steps
    c.in-Some.machine (rw c.in-Some.is at c.in_ok-machine.ensures) (c.in_ok-is_known.ensures is)
