use Rattle.lryacc.proofs.LeastSets.{finds_again}
use Rattle.lryacc.proofs.useful.find_productive.Goals as goal
use Rattle.lryacc.proofs.useful.find_productive.Goals.{in-Some-get+in_ok-count_down, in_default-get}

pub loop-preserved : goal.loop-preserved
loop-preserved c = elim c.match-get.branch [
  | in-Some-get+in_ok-count_down w ↦ rw w.search-is (finds_again c.loop.invariant w.in_ok-count_down.ensures)
  | in_default-get w ↦ rw w.search-is c.loop.invariant
]
