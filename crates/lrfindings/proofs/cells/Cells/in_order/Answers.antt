use Rattle.std.proofs.lemmas.List.Sorted.{IsPermutation-map}
use Rattle.lrverdicts.specs.Listed.{told}
use Rattle.lrfindings.specs.StoredCells.{resolution}
use Rattle.lrfindings.proofs.cells.Cells.in_order.Goals as goal

pub returns-clause-left : goal.returns-clause-left
returns-clause-left c = IsPermutation-map told _ _ c.sort_unstable.ensures.permutation

pub returns-clause-resolved : goal.returns-clause-resolved
returns-clause-resolved c = IsPermutation-map resolution _ _ c.sort_unstable_by_key.ensures.permutation
