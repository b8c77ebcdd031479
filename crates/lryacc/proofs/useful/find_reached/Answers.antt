use Rattle.lryacc.proofs.LeastSets.{reaches_again, reaches_first}
use Rattle.lryacc.proofs.useful.find_reached.Goals as goal
use Rattle.lryacc.proofs.useful.find_reached.Goals.{in-Some-get+in_ok-find_behind, in_default-get}

pub loop-preserved : goal.loop-preserved
loop-preserved c = elim c.match-get.branch [
  | in-Some-get+in_ok-find_behind w ↦ rw w.search-is (reaches_again c.loop.invariant w.in_ok-find_behind.ensures)
  | in_default-get w ↦ rw w.search-is c.loop.invariant
]

pub returns-after-loop : goal.returns-after-loop
returns-after-loop c = reaches_again (reaches_first _ _ _ _ c.in_ok-find.ensures) c.loop.invariant

pub returns-in_default : goal.returns-in_default
returns-in_default c = reaches_again (reaches_first _ _ _ _ c.in_ok-find.ensures) c.loop.invariant
