use Rattle.lrtree.specs.StoredTrees.{forests_of}
use Rattle.lrtree.specs.StoredWalks.{open_of, left_of, weight_of}
use Rattle.lrtree.specs.TreesOf.{IsOfTree}
use Rattle.lrtree.proofs.BuiltTrees.{IsBuilding}
use Rattle.lrtree.proofs.building.add_visits.Given as goal

abbrev pub invariant-loop-walk : goal.invariant-loop-walk
invariant-loop-walk g l =
    let number = g.T.IndexStorage.number in
    IsOfTree number l.grm l.fn.productions.items (λ t. IsBuilding l.grm (open_of number l.walk) (left_of number l.walk) (forests_of number l.rows.items) t)

abbrev pub decreases-loop-walk : goal.decreases-loop-walk
decreases-loop-walk g l = weight_of g.T.IndexStorage.MAX l.walk
