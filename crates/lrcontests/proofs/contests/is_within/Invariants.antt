-- the items that are not left are in the other item set
use Rattle.std.proofs.Common.{ℕ, ◌⊎◌}
use Rattle.lrspec.specs.grammars.ItemSets.{HasItem}
use Rattle.lritems.specs.ItemsOf.{items_of, set_of}
use Rattle.lrclosing.proofs.WalksOverItems.{FoundAll}
use Rattle.lrcontests.proofs.contests.is_within.Given as goal

abbrev pub invariant-loop-key : goal.invariant-loop-key
invariant-loop-key g l =
    let number = g.T.IndexStorage.number in
    record {
      found : FoundAll number l.one.items.entries l.key-iterator;
      passed :
          (p d : ℕ) → HasItem (set_of number l.one) p d
          → HasItem (items_of number l.key-iterator) p d ⊎ HasItem (set_of number l.other) p d;
    }
