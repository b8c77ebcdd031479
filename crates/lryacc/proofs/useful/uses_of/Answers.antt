use Rattle.lryacc.proofs.LeastSets.{finds_again}
use Rattle.lryacc.proofs.useful.uses_of.Goals as goal
use Rattle.lryacc.proofs.useful.uses_of.Goals.{then-count-eq0+in_ok-find_of, else-count-eq0}

pub loop-prod-preserved : goal.loop-prod-preserved
loop-prod-preserved c = elim c.if-count-eq0.branch [
  | then-count-eq0+in_ok-find_of w ↦ rw w.search-is (finds_again c.loop-prod.invariant w.in_ok-find_of.ensures)
  | else-count-eq0 w ↦ rw w.search-is c.loop-prod.invariant
]
