-- items of one item set that another has too
use Rattle.std.proofs.Common.{◌≡◌, ℕ, Bool, List, [], ◌∷◌, ⊎_elim}
use Rattle.std.specs.List.{All}
use Rattle.std.specs.Map.{keys_of}
use Rattle.std.proofs.lemmas.List.Elements.{All-head, All-tail}
use Rattle.lrgrammar.specs.declared.idx.PIdx.{PIdx}
use Rattle.lrgrammar.specs.declared.idx.SIdx.{SIdx}
use Rattle.lrspec.specs.grammars.ItemSets.{HasItem}
use Rattle.lrclosing.specs.ItemsOf.{items_of}
use Rattle.lrclosing.proofs.WalksOverItems.{first_or_rest}
use Rattle.lritems.specs.declared.itemset.Itemset.{Itemset}
use Rattle.lritems.specs.ItemsOf.{set_of}

-- the item set has the item of the key
abbrev pub HasKey : {T : Type 0} → (T → ℕ) → Itemset T → PIdx T × SIdx T → Type 0
HasKey number a k = HasItem (set_of number a) (number k.0.0) (number k.1.0)

-- where it has those of all keys, it has all items
pub items_had :
    {T : Type 0} (number : T → ℕ) (one : Itemset T) (es : List ((PIdx T × SIdx T) × List Bool)) → All (HasKey number one) (keys_of es)
    → (p d : ℕ) → HasItem (items_of number es) p d → HasItem (set_of number one) p d
items_had number one [] all p d h = absurd (cc)
items_had number one (e ∷ es) all p d h =
    ⊎_elim
    (λ (s : (p ≡ number e.0.0.0) × (d ≡ number e.0.1.0)). rw (s.0, s.1) (All-head (HasKey number one) e.0 (keys_of es) all))
    (λ (r : HasItem (items_of number es) p d). items_had number one es (All-tail (HasKey number one) e.0 (keys_of es) all) p d r)
    (first_or_rest (number e.0.0.0) (number e.0.1.0) e.1 (items_of number es) p d h)
