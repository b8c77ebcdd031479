use Rattle.lrfindings.proofs.CellWalks.{none_tried}
use Rattle.lrfindings.proofs.cells.Decisions.try_reductions.Goals as goal

pub loop-production-init : goal.loop-production-init
loop-production-init c = rw c.new.ensures.items (none_tried _ _ _ _ _)
