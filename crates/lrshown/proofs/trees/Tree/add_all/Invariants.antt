-- the steps so far
use Rattle.std.proofs.Common.{take}
use Rattle.lrshown.specs.DrawnTrees.{Row, with_steps}
use Rattle.lrshown.specs.StoredTrees.{IsBuilt}
use Rattle.lrshown.proofs.trees.Tree.add_all.Given as goal

abbrev pub invariant-loop-step : goal.invariant-loop-step
invariant-loop-step l =
    (ts : Row) → IsBuilt l.initial.self ts → IsBuilt l.self (with_steps l.file ts (take l.step-index l.steps))
