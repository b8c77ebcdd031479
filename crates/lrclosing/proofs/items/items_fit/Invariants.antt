use Rattle.std.proofs.Common.{◌≡◌, ℕ, ◌⊎◌, List, Bool, Some}
use Rattle.lrspec.specs.grammars.ItemSets.{item_at, HasItem, FitsAt}
use Rattle.lrclosing.specs.ItemsOf.{items_of}
use Rattle.lrclosing.proofs.WalksOverItems.{FoundAll}
use Rattle.lrclosing.proofs.items.items_fit.Given as goal

abbrev pub invariant-loop-key : goal.invariant-loop-key
invariant-loop-key g l =
    let number = g.T.IndexStorage.number in
    record {
      found : FoundAll number l.items.entries l.key-iterator;
      checked : (p d : ℕ) (v : List Bool) → item_at (items_of number l.items.entries) p d ≡ Some v → FitsAt l.grm p d v ⊎ HasItem (items_of number l.key-iterator) p d;
    }
