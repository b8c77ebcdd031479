-- item sets as plain data
use Rattle.std.specs.Prelude.{◌≡◌, ℕ, Bool, List, Option}
use Rattle.lritems.specs.declared.itemset.Itemset.{Itemset}
use Rattle.lrgrammar.specs.declared.idx.PIdx.{PIdx}
use Rattle.lrgrammar.specs.declared.idx.SIdx.{SIdx}
use Rattle.lrspec.specs.grammars.ItemSets.{Items, item_at}
pub use Rattle.lrclosing.specs.ItemsOf.{items_of, listed_of, joined, HaveBits}

-- the items of an item set, each by the numbers of its production and its dot
abbrev pub set_of : {T : Type 0} → (T → ℕ) → Itemset T → Items
set_of number s = items_of number s.items.entries

-- the bits of an item in an item set, if it is there
abbrev pub look_up : {T : Type 0} → (T → ℕ) → Itemset T → PIdx T → SIdx T → Option (List Bool)
look_up number s pidx dot = item_at (set_of number s) (number pidx.0) (number dot.0)

-- both item sets have the same items with the same bits
abbrev pub Agree : Items → Items → Type 0
Agree a b = (p d : ℕ) → item_at a p d ≡ item_at b p d
