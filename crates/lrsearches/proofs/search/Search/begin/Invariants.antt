-- visits of the places so far
use Rattle.std.proofs.Common.{map, take}
use Rattle.std.specs.BinaryHeap.{heap_items}
use Rattle.lrsearches.specs.Trails.{visits_of, turns_of, begin_of, AreKnown, AddsAll}
use Rattle.lrsearches.proofs.search.Search.begin.Given as goal

abbrev pub invariant-loop-place : goal.invariant-loop-place
invariant-loop-place g l =
    let number = g.T.IndexStorage.number in
    record {
      known : AreKnown number l.self.seen (visits_of number l.self.visits.items);
      added :
          AddsAll (visits_of number l.fn.self.visits.items) (turns_of (heap_items l.fn.self.waiting)) (map (begin_of number) (take l.place-index l.places))
          (visits_of number l.self.visits.items) (turns_of (heap_items l.self.waiting));
    }
