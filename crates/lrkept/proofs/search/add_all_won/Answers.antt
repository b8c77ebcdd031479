-- a turn for each
use Rattle.lrexchange.proofs.WonPositions.{adds_none, adds_more}
use Rattle.lrkept.proofs.search.add_all_won.Goals as goal

pub loop-one-init : goal.loop-one-init
loop-one-init c = adds_none _

pub loop-one-preserved : goal.loop-one-preserved
loop-one-preserved c = adds_more _ _ _ c.loop-one.invariant c.in_ok-add_won.ensures
