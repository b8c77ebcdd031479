use Rattle.std.proofs.Common.{◌≡◌, drop}
use Rattle.std.specs.Prelude.{◌↔◌}
use Rattle.lritems.specs.ItemsOf.{items_of}
use Rattle.lritems.specs.Gotos.{items_in, listed_in}
use Rattle.lritems.proofs.GotoItems.{items_shown}
use Rattle.lritems.proofs.gotos.Goto.is_equal.Given as goal

abbrev pub invariant-loop-k : goal.invariant-loop-k
invariant-loop-k g l =
    let number = g.T.IndexStorage.number in
    (l.core ≡ items_in number l.self)
    ↔ (items_of number (drop l.k l.core-inside.items.items) ≡ items_shown number (λ r. r.now) (drop l.k (listed_in l.self)))
