-- those of the one way where both are exchanged
use Rattle.std.proofs.lemmas.Result.{IfOk-weaker}
use Rattle.lrdecided.specs.StoredNodes.{node_of}
use Rattle.lrdecided.proofs.FoundMoves.{swapped_so}
use Rattle.lrdecided.proofs.moves.moves_of_other.Goals as goal

pub returns : goal.returns
returns c =
    IfOk-weaker c.moves_of_one.result _ _
    (λ o k. swapped_so c.args.grm.now c.args.graph.now (node_of c.args.node.now) _ c.in_ok-swapped.ensures o k) c.moves_of_one.ensures
