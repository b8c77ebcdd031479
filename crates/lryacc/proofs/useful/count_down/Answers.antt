use Rattle.lryacc.proofs.LeastSets.{finds_again}
use Rattle.lryacc.proofs.useful.count_down.Goals as goal
use Rattle.lryacc.proofs.useful.count_down.Goals.{then-is_last+in_ok-find_of, else-is_last}

pub loop-prod-preserved : goal.loop-prod-preserved
loop-prod-preserved c = elim c.if-is_last.branch [
  | then-is_last+in_ok-find_of w ↦ rw w.search-is (finds_again c.loop-prod.invariant w.in_ok-find_of.ensures)
  | else-is_last w ↦ rw w.search-is c.loop-prod.invariant
]
