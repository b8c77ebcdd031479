-- the places at the states so far
use Rattle.std.proofs.Common.{map}
use Rattle.lrsearches.specs.StoredPlaces.{place_of}
use Rattle.lrcontests.specs.Contests.{AreStartsBelow}
use Rattle.lrcontests.proofs.contests.start_places.Given as goal

abbrev pub invariant-loop-number : goal.invariant-loop-number
invariant-loop-number g l =
    let number = g.T.IndexStorage.number in
    AreStartsBelow l.graph (number l.token.0) (place_of number l.given) l.number (map (place_of number) l.places.items)
