use Rattle.std.proofs.lemmas.List.{take_all}
use Rattle.lrentries.proofs.CellsInTurn.{put_more}
use Rattle.lrentries.proofs.losses.cells_of.Goals as goal

pub loop-one-preserved : goal.loop-one-preserved
loop-one-preserved c =
    put_more _ _ _ c.in_ok-insert.ensures.updates.0 c.args.resolved.now c.loop-one.one-index _ c.loop-one-test.true c.cell.ensures c.loop-one.invariant

pub returns : goal.returns
returns c = rw (take_all c.loop-one.one-index c.args.resolved.now c.loop-one-test.false) at c.loop-one.invariant
