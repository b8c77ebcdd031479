use Rattle.std.proofs.Common.{take}
use Rattle.std.specs.List.{All}
use Rattle.lrrows.specs.StoredActions.{action_numbered, NeitherShiftsNorAccepts}
use Rattle.lrrows.proofs.rows.reduces_alone.Given as goal

abbrev pub invariant-loop-number : goal.invariant-loop-number
invariant-loop-number g l = All (λ e. NeitherShiftsNorAccepts (action_numbered e.1)) (take l.number-index l.row)
