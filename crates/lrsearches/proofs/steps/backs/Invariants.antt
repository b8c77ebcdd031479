-- the steps back over the edges so far
use Rattle.std.proofs.Common.{drop}
use Rattle.lrsearches.specs.StoredPlaces.{place_of, need_of, steps_of}
use Rattle.lrsearches.specs.StoredWays.{row_of}
use Rattle.lrsearches.proofs.StepsOfPlaces.{AreBacks}
use Rattle.lrsearches.proofs.steps.backs.Given as goal

abbrev pub invariant-loop-edge : goal.invariant-loop-edge
invariant-loop-edge g l =
    let number = g.T.IndexStorage.number in
    AreBacks l.grm l.graph (number l.token.0) (place_of number l.fn.place) (need_of number l.first) (need_of number l.second)
    (steps_of number l.steps.items) (row_of number (drop l.edge-index l.incoming))
