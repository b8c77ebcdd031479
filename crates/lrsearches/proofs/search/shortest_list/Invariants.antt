-- what was come to, and what is left to be looked at
use Rattle.std.proofs.Common.{◌+◌, ◌-◌, ◌^◌, map, length}
use Rattle.std.specs.Prelude.{Contains}
use Rattle.std.specs.BinaryHeap.{heap_items}
use Rattle.lrsearches.specs.Searches.{Place}
use Rattle.lrsearches.specs.StoredPlaces.{place_of}
use Rattle.lrsearches.specs.Trails.{visits_of, turns_of, AreKnown, IsVisited}
use Rattle.lrsearches.proofs.TrailsInTurn.{IsSearching}
use Rattle.lrsearches.proofs.search.shortest_list.Given as goal

abbrev pub invariant-loop-number : goal.invariant-loop-number
invariant-loop-number g l =
    let number = g.T.IndexStorage.number in
    let vs = visits_of number l.search.visits.items in
    let ps = map (place_of number) l.places in
    record {
      known : AreKnown number l.search.seen vs;
      searching : IsSearching l.grm l.graph (number l.token.0) ps vs (turns_of (heap_items l.search.waiting)) (λ i. ⊥);
      begun : (a : Place) → Contains ps a → IsVisited vs a;
    }

abbrev pub decreases-loop-number : goal.decreases-loop-number
decreases-loop-number g l = (2 ^ 63 - length l.search.visits.items) + length (heap_items l.search.waiting)
