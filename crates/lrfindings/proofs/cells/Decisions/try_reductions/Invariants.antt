use Rattle.std.proofs.Common.{map, drop}
use Rattle.lrfindings.specs.StoredCells.{outcome_in, resolution}
use Rattle.lrfindings.proofs.CellWalks.{AreTried}
use Rattle.lrfindings.proofs.cells.Decisions.try_reductions.Given as goal

abbrev pub invariant-loop-production : goal.invariant-loop-production
invariant-loop-production l =
    AreTried (outcome_in l.rules.precedences.now l.cell.token) l.cell.state l.cell.token (map resolution l.fn.self.resolved.items) l.reductions
    (drop l.production-index l.reductions) l.left.stands l.left.reductions.items (map resolution l.self.resolved.items)
