use Rattle.std.proofs.Common.{◌≡◌, ◌++◌, map, take, Some}
use Rattle.lrverdicts.specs.Listed.{told}
use Rattle.lrfindings.proofs.cells.add_conflicts.Given as goal

abbrev pub invariant-loop-other : goal.invariant-loop-other
invariant-loop-other l =
    map told l.entries.items ≡ map told l.initial.entries.items ++ map (λ q. (l.cell.token, l.first, Some q, l.cell.state)) (take l.other-index l.others)
