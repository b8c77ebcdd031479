-- the set has those so far
use Rattle.std.proofs.Common.{take}
use Rattle.std.specs.Prelude.{All}
use Rattle.lrentries.specs.Cells.{HasCell}
use Rattle.lrentries.specs.Losses.{cell_of}
use Rattle.lrentries.proofs.losses.cells_of.Given as goal

abbrev pub invariant-loop-one : goal.invariant-loop-one
invariant-loop-one l = All (λ r. HasCell l.cells (cell_of r.entry)) (take l.one-index l.resolved)
