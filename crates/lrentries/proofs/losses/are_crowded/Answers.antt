use Rattle.lrentries.proofs.CellsInTurn.{apart}
use Rattle.lrentries.proofs.losses.are_crowded.Goals as goal

pub returns : goal.returns
returns c = λ none.
    apart c.in_ok-cells.cells c.args.found.now (rw c.as_slice.ensures.value at c.in_ok-cells.ensures)
    (rw c.as_slice-2.ensures.value at (c.has_any.ensures none))
