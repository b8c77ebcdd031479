-- the set lacks those so far
use Rattle.std.proofs.Common.{take}
use Rattle.std.specs.Prelude.{All}
use Rattle.lrentries.specs.Cells.{LacksCell}
use Rattle.lrentries.specs.Losses.{cell_of}
use Rattle.lrentries.proofs.losses.has_any.Given as goal

abbrev pub invariant-loop-entry : goal.invariant-loop-entry
invariant-loop-entry l = All (λ e. LacksCell l.cells (cell_of e)) (take l.entry-index l.entries)
