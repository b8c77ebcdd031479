use Rattle.std.proofs.Common.{◌≡◌, map, take}
use Rattle.lrfindings.specs.StoredCells.{complete, looking_at}
use Rattle.lrfindings.proofs.cells.list_at.Given as goal

abbrev pub invariant-loop-reduction : goal.invariant-loop-reduction
invariant-loop-reduction l = l.productions.items ≡ looking_at (map complete (take l.reduction-index l.reductions)) l.token
