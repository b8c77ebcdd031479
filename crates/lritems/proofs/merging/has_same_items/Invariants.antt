use Rattle.std.proofs.Common.{drop}
use Rattle.std.specs.Prelude.{◌↔◌}
use Rattle.lritems.specs.ItemsOf.{items_of}
use Rattle.lritems.specs.Gotos.{items_in, listed_in}
use Rattle.lritems.specs.Merging.{HaveSameKeys}
use Rattle.lritems.proofs.GotoItems.{items_shown}
use Rattle.lritems.proofs.merging.has_same_items.Given as goal

abbrev pub invariant-loop-k : goal.invariant-loop-k
invariant-loop-k g l =
    let number = g.T.IndexStorage.number in
    HaveSameKeys l.a (items_in number l.b)
    ↔ HaveSameKeys (items_of number (drop l.k l.a-inside.items.items)) (items_shown number (λ r. r.now) (drop l.k (listed_in l.b)))
