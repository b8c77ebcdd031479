-- one side
use Rattle.std.proofs.Common.{ap}
use Rattle.lrdecided.specs.StoredNodes.{symbols_of, side_of}
use Rattle.lrdecided.proofs.CollectedInTurn.{added}
use Rattle.lrdecided.proofs.FoundStarts.{reduced_so}
use Rattle.lrdecided.proofs.starts.reduction.Goals as goal

pub returns : goal.returns
returns c =
    added side_of _ _ _ c.in_ok-push.ensures.items _
    (reduced_so c.args.grm.now c.args.pidx.0 c.prod_len-dot.result.0 _ c.prod_len-dot.ensures (ap symbols_of c.new-symbols.ensures.items))
