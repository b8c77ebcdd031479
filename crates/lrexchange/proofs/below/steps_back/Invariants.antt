-- the steps back from those so far are there
use Rattle.std.proofs.Common.{drop}
use Rattle.lrexchange.specs.StoredPositions.{belows_of}
use Rattle.lrexchange.proofs.AskedInTurn.{AllBut}
use Rattle.lrexchange.proofs.BelowStates.{StepsFrom}
use Rattle.lrexchange.proofs.below.steps_back.Given as goal

abbrev pub invariant-loop-below : goal.invariant-loop-below
invariant-loop-below l =
    AllBut (StepsFrom l.graph (belows_of l.steps.items)) (belows_of l.belows) (belows_of (drop l.below-index l.belows))
