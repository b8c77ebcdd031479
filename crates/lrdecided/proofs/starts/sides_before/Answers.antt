-- by the move
use Rattle.lrdecided.specs.StoredNodes.{sides_of}
use Rattle.lrdecided.proofs.FoundStarts.{of_reductions}
use Rattle.lrdecided.proofs.starts.sides_before.Goals as goal

pub returns-in_ok-sides-in-Reduce : goal.returns-in_ok-sides-in-Reduce
returns-in_ok-sides-in-Reduce c =
    rw c.in-Reduce.is
    (of_reductions c.args.grm.now c.args.graph.now c.args.state.0 c.args.token.0 c.in-Reduce.pidx.0 (sides_of c.in_ok-sides-in-Reduce.sides.items)
    c.in_ok-sides-in-Reduce.ensures)
