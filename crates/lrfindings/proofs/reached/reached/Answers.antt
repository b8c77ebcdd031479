use Rattle.std.proofs.Common.{map}
use Rattle.lrfindings.specs.Cells.{has_cell}
use Rattle.lrfindings.specs.ReachedStates.{is_taken_away}
use Rattle.lrfindings.specs.StoredCells.{resolution}
use Rattle.lrfindings.proofs.ReachedMarks.{marked_alike}
use Rattle.lrfindings.proofs.reached.reached.Goals as goal

pub returns : goal.returns
returns c =
    marked_alike (has_cell c.in_ok-taken.taken) (is_taken_away (map resolution c.args.resolved.now)) c.args.graph.now _ c.in_ok-taken.ensures c.in_ok-marks.ensures
