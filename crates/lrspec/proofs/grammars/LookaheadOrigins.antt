-- where a lookahead of a closure comes from: the rest behind a rule, or an item of the core
use Rattle.std.proofs.Common.{◌≡◌, ℕ, List, ◌∷◌, ◌⊎◌, inl, inr}
use Rattle.lrspec.specs.grammars.Grammar.{Symbol, Rule, Grammar, rest, IsProductionOf}
use Rattle.lrspec.specs.grammars.First.{AllNullable, Begins}
use Rattle.lrspec.specs.grammars.CanonicalItems as item
use Rattle.lrspec.specs.grammars.CanonicalItems.{Stands, Looks}
use Rattle.lrspec.specs.grammars.ItemSets as set
use Rattle.lrspec.specs.grammars.ItemSets.{Items, HasItem, LooksIn, ClosedItem, ClosedLook, IsClosure}
use Rattle.lrspec.proofs.grammars.Closures.{closed_item_mono}

-- a closed item looks at the token whatever the core looks at
pub data IsUniversal (g : Grammar) (Core : ℕ → ℕ → Type 0) : ℕ → ℕ → ℕ → Type 0 where
  begins : {p d r q t : ℕ} {y : List Symbol} → ClosedItem g Core p d → rest g p d ≡ Rule r ∷ y → IsProductionOf g q r → Begins g y t → IsUniversal g Core q 0 t
  inherit : {p d r q t : ℕ} {y : List Symbol} → IsUniversal g Core p d t → rest g p d ≡ Rule r ∷ y → IsProductionOf g q r → AllNullable g y → IsUniversal g Core q 0 t

-- the item of the production `k` at the dot `e` passes on to the item what it looks at
pub data Feeds (g : Grammar) (k e : ℕ) : ℕ → ℕ → Type 0 where
  itself : Feeds g k e k e
  through : {p d r q : ℕ} {y : List Symbol} → Feeds g k e p d → rest g p d ≡ Rule r ∷ y → IsProductionOf g q r → AllNullable g y → Feeds g k e q 0

-- an item of the core that looks at the token feeds the item
abbrev pub IsFed : Grammar → (ℕ → ℕ → ℕ → Type 0) → ℕ → ℕ → ℕ → Type 0
IsFed g L p d t = (k : ℕ) × (e : ℕ) × L k e t × Feeds g k e p d

-- a lookahead of a closed item is universal, or an item of the core feeds it
pub origin : {g : Grammar} {A : ℕ → ℕ → Type 0} {L : ℕ → ℕ → ℕ → Type 0} {p d t : ℕ} → ClosedLook g A L p d t → IsUniversal g A p d t ⊎ IsFed g L p d t
origin (set.ClosedLook.core {p = p} {d = d} h) = inr (p, d, h, itself)
origin (set.ClosedLook.begins c e h b) = inl (begins c e h b)
origin (set.ClosedLook.inherit c e h n) = elim (origin c) [
  | inl f ↦ inl (inherit f e h n)
  | inr f ↦ inr (f.0, f.1, f.2, through f.3 e h n)
]

-- a universal token is looked at
pub look_of_universal : {g : Grammar} {A : ℕ → ℕ → Type 0} {L : ℕ → ℕ → ℕ → Type 0} {p d t : ℕ} → IsUniversal g A p d t → ClosedLook g A L p d t
look_of_universal (begins c e h b) = set.ClosedLook.begins c e h b
look_of_universal (inherit f e h n) = set.ClosedLook.inherit (look_of_universal f) e h n

-- a fed item looks at what the feeding item looks at
pub look_of_fed :
    {g : Grammar} {A : ℕ → ℕ → Type 0} {L : ℕ → ℕ → ℕ → Type 0} {k e p d t : ℕ} → L k e t → Feeds g k e p d → ClosedLook g A L p d t
look_of_fed l itself = set.ClosedLook.core l
look_of_fed l (through f e h n) = set.ClosedLook.inherit (look_of_fed l f) e h n

-- what is universal over some items is so over more items
pub universal_mono : {g : Grammar} {A B : ℕ → ℕ → Type 0} → ((p d : ℕ) → A p d → B p d) → {p d t : ℕ} → IsUniversal g A p d t → IsUniversal g B p d t
universal_mono h (begins c e i b) = begins (closed_item_mono h c) e i b
universal_mono h (inherit f e i n) = inherit (universal_mono h f) e i n

-- a lookahead in a closure is universal, or an item of the core feeds it
pub closure_origin :
    {g : Grammar} {a c : Items} → IsClosure g a c → (p d t : ℕ) → LooksIn c p d t
    → IsUniversal g (HasItem a) p d t ⊎ IsFed g (LooksIn a) p d t
closure_origin m p d t l = origin ((m.looks p d t).0 l)

-- a universal token is looked at in the closure of every core with the same items
pub closure_universal : {g : Grammar} {b c : Items} → IsClosure g b c → (p d t : ℕ) → IsUniversal g (HasItem b) p d t → LooksIn c p d t
closure_universal m p d t u = (m.looks p d t).1 (look_of_universal u)

-- what a core item looks at, the items that it feeds look at in the closure
pub closure_fed : {g : Grammar} {b c : Items} → IsClosure g b c → (k e p d t : ℕ) → LooksIn b k e t → Feeds g k e p d → LooksIn c p d t
closure_fed m k e p d t l f = (m.looks p d t).1 (look_of_fed l f)

-- where the items of a core stand, those of its closure do
pub stands_of_closed :
    {g : Grammar} {w : List Symbol} {A : ℕ → ℕ → Type 0} → ((p d : ℕ) → A p d → Stands g w p d)
    → {p d : ℕ} → ClosedItem g A p d → Stands g w p d
stands_of_closed h (set.ClosedItem.core {p = p} {d = d} c) = h p d c
stands_of_closed h (set.ClosedItem.expand c e i) = item.Stands.expand (stands_of_closed h c) e i

-- and look at what is universal
pub looks_of_universal :
    {g : Grammar} {w : List Symbol} {A : ℕ → ℕ → Type 0} → ((p d : ℕ) → A p d → Stands g w p d)
    → {p d t : ℕ} → IsUniversal g A p d t → Looks g w p d t
looks_of_universal h (begins c e i b) = item.Looks.expand (stands_of_closed h c) e i b
looks_of_universal h (inherit f e i n) = item.Looks.inherit (looks_of_universal h f) e i n

-- a fed item looks after a list at what the feeding item looks at there
pub looks_of_fed : {g : Grammar} {w : List Symbol} {k e p d t : ℕ} → Looks g w k e t → Feeds g k e p d → Looks g w p d t
looks_of_fed l itself = l
looks_of_fed l (through f e h n) = item.Looks.inherit (looks_of_fed l f) e h n
