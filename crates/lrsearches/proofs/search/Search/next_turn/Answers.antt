-- a turn is taken
use Rattle.std.specs.BinaryHeap.{heap_items}
use Rattle.lrsearches.proofs.TrailsInTurn.{turns_popped}
use Rattle.lrsearches.proofs.search.Search.next_turn.Goals as goal

pub returns-in-Some-clause-turn : goal.returns-in-Some-clause-turn
returns-in-Some-clause-turn g c = turns_popped (heap_items c.args.self.now.waiting) (heap_items c.pop.new.self) c.in-Some.field-0 c.in-Some.ensures.permutation
