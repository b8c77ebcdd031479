-- visits of the steps so far
use Rattle.std.proofs.Common.{map, take}
use Rattle.std.specs.BinaryHeap.{heap_items}
use Rattle.lrsearches.specs.Trails.{visits_of, turns_of, next_of, AreKnown, AddsAll}
use Rattle.lrsearches.proofs.search.Search.go_on.Given as goal

abbrev pub invariant-loop-step : goal.invariant-loop-step
invariant-loop-step g l =
    let number = g.T.IndexStorage.number in
    record {
      known : AreKnown number l.self.seen (visits_of number l.self.visits.items);
      added :
          AddsAll (visits_of number l.fn.self.visits.items) (turns_of (heap_items l.fn.self.waiting)) (map (next_of number l.fn.from) (take l.step-index l.steps))
          (visits_of number l.self.visits.items) (turns_of (heap_items l.self.waiting));
    }
