use Rattle.std.proofs.Common.{◌≡◌, ◌++◌, drop}
use Rattle.lritems.specs.ItemsOf.{items_of, listed_of}
use Rattle.lritems.proofs.GotoItems.{items_shown}
use Rattle.lritems.proofs.gotos.to_itemset.Given as goal

abbrev pub invariant-loop-key : goal.invariant-loop-key
invariant-loop-key g l =
    let number = g.T.IndexStorage.number in
    items_of number l.pairs.items ++ items_shown number (λ r. r.now) (drop l.key-index l.items) ≡ listed_of number l.items
