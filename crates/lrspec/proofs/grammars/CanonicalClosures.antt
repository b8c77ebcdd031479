-- the core after a list closes to what stands after it, and its gotos are the next cores
use Rattle.std.proofs.Common.{◌≡◌, ℕ, suc, List, [], ◌∷◌, ◌++◌, refl, sym, ◌∙◌, ◌↔◌}
use Rattle.lrspec.specs.grammars.Grammar.{Symbol, Grammar, IsGrammar, end_token}
use Rattle.lrspec.specs.grammars.CanonicalItems as item
use Rattle.lrspec.specs.grammars.CanonicalItems.{Stands, Looks}
use Rattle.lrspec.specs.grammars.ItemSets as set
use Rattle.lrspec.specs.grammars.ItemSets.{Items, HasItem, LooksIn, ClosedItem, ClosedLook, IsClosure, IsBefore, Moved, IsGoto}
use Rattle.lrspec.specs.grammars.StartState.{IsStartCore, IsCanonicalStart}
use Rattle.lrspec.specs.merging.Cores as merging
use Rattle.lrspec.specs.merging.Cores.{IsCoreItem, HasCoreAfter}
use Rattle.lrspec.specs.merging.WeakCompatibility.{SameItems}
use Rattle.lrspec.proofs.grammars.BodyFacts.{push_same, push_not_empty}
use Rattle.lrspec.proofs.grammars.CanonicalItemFacts.{stands_of_looks, stands_back, looks_back, stands_not_at_start, start_stands_first, start_looks_first}
use Rattle.lrspec.proofs.grammars.Closures.{has_of_looks, moved_mono}
use Rattle.lrspec.proofs.grammars.LookaheadOrigins.{stands_of_closed}

-- the core items after a list stand after it
pub core_item_stands : {g : Grammar} {w : List Symbol} {p d : ℕ} → IsCoreItem g w p d → Stands g w p d
core_item_stands (merging.IsCoreItem.start s) = s
core_item_stands (merging.IsCoreItem.moved s) = s

-- what stands after a list is in the closure of the core after it
pub closed_of_stands :
    {g : Grammar} {w : List Symbol} {A : ℕ → ℕ → Type 0} → ((p d : ℕ) → IsCoreItem g w p d → A p d)
    → {p d : ℕ} → Stands g w p d → ClosedItem g A p d
closed_of_stands {g = g} h item.Stands.begin = set.ClosedItem.core (h g.start_production 0 (merging.IsCoreItem.start item.Stands.begin))
closed_of_stands h (item.Stands.expand s e i) = set.ClosedItem.expand (closed_of_stands h s) e i
closed_of_stands h (item.Stands.advance {p = p} {d = d} s e) = set.ClosedItem.core (h p (suc d) (merging.IsCoreItem.moved (item.Stands.advance s e)))

-- and where it looks, the closure looks
pub closed_of_looks :
    {g : Grammar} {w : List Symbol} {A : ℕ → ℕ → Type 0} {L : ℕ → ℕ → ℕ → Type 0} → ((p d : ℕ) → IsCoreItem g w p d → A p d)
    → ((p d t : ℕ) → IsCoreItem g w p d → Looks g w p d t → L p d t) → {p d t : ℕ} → Looks g w p d t → ClosedLook g A L p d t
closed_of_looks {g = g} h k item.Looks.begin =
    set.ClosedLook.core (k g.start_production 0 (end_token g) (merging.IsCoreItem.start item.Stands.begin) item.Looks.begin)
closed_of_looks h k (item.Looks.expand s e i b) = set.ClosedLook.begins (closed_of_stands h s) e i b
closed_of_looks h k (item.Looks.inherit l e i n) = set.ClosedLook.inherit (closed_of_looks h k l) e i n
closed_of_looks h k (item.Looks.advance {p = p} {d = d} {t = t} l e) =
    set.ClosedLook.core (k p (suc d) t (merging.IsCoreItem.moved (item.Stands.advance (stands_of_looks l) e)) (item.Looks.advance l e))

-- where a core looks only where its items look after a list, so does its closure
pub looks_of_closed :
    {g : Grammar} {w : List Symbol} {A : ℕ → ℕ → Type 0} {L : ℕ → ℕ → ℕ → Type 0} → ((p d : ℕ) → A p d → Stands g w p d)
    → ((p d t : ℕ) → L p d t → Looks g w p d t) → {p d t : ℕ} → ClosedLook g A L p d t → Looks g w p d t
looks_of_closed h k (set.ClosedLook.core {p = p} {d = d} {t = t} l) = k p d t l
looks_of_closed h k (set.ClosedLook.begins c e i b) = item.Looks.expand (stands_of_closed h c) e i b
looks_of_closed h k (set.ClosedLook.inherit c e i n) = item.Looks.inherit (looks_of_closed h k c) e i n

-- the closure of a core after a list has exactly what stands after the list
pub core_closes :
    {g : Grammar} {w : List Symbol} {a c : Items} → HasCoreAfter g w a → IsClosure g a c → (p d : ℕ) → HasItem c p d ↔ Stands g w p d
core_closes m k p d = (
  λ i. stands_of_closed (λ q e h. core_item_stands ((m.items q e).0 h)) ((k.items p d).0 i),
  λ s. (k.items p d).1 (closed_of_stands (λ q e h. (m.items q e).1 h) s),
)

-- a core that looks exactly where its items look after a list
abbrev pub LooksAfter : Grammar → List Symbol → Items → Type 0
LooksAfter g w a = (p d t : ℕ) → HasItem a p d → LooksIn a p d t ↔ Looks g w p d t

-- has a closure that looks exactly where what stands after the list looks
pub core_closes_looks :
    {g : Grammar} {w : List Symbol} {a c : Items} → HasCoreAfter g w a → LooksAfter g w a → IsClosure g a c
    → (p d t : ℕ) → LooksIn c p d t ↔ Looks g w p d t
core_closes_looks {g} {w} {a} {c} m n k p d t = (
  λ i. looks_of_closed (λ q e h. core_item_stands ((m.items q e).0 h)) (λ q e u l. (n q e u (has_of_looks a q e u l)).0 l) ((k.looks p d t).0 i),
  λ s. (k.looks p d t).1 (closed_of_looks (λ q e h. (m.items q e).1 h) (λ q e u h l. (n q e u ((m.items q e).1 h)).1 l) s),
)

-- after the empty list the start item alone is of the core
start_core_item : {g : Grammar} {v : List Symbol} {p d : ℕ} → IsCoreItem g v p d → v ≡ [] → (p ≡ g.start_production) × (d ≡ 0)
start_core_item (merging.IsCoreItem.start s) e = (refl, refl)
start_core_item (merging.IsCoreItem.moved s) e = absurd (stands_not_at_start s e)

-- the start core is the core after the empty list
pub start_core : {g : Grammar} {a : Items} → IsStartCore g a → HasCoreAfter g [] a
start_core {g} {a} h = record {
  items = λ p d. (
    λ i. let k = (h.item p d).0 i in rw (k.0, k.1) (merging.IsCoreItem.start item.Stands.begin),
    λ i. (h.item p d).1 (start_core_item i refl),
  );
  some = (g.start_production, 0, (h.item g.start_production 0).1 (refl, refl));
}

-- and looks where it looks there
pub start_core_looks : {g : Grammar} (a : Items) → IsGrammar g → IsStartCore g a → LooksAfter g [] a
start_core_looks {g} a m h p d t i =
    let at = (h.item p d).0 i in (
      λ l. let e = (h.look p d t).0 l in rw (e.0, e.1, e.2) item.Looks.begin,
      λ l. (h.look p d t).1 (at.0, at.1, (start_looks_first m l at.0 at.1).1),
    )

-- the closure of the start core has exactly what stands after the empty list, looking exactly where that looks
pub start_closes : {g : Grammar} {a c : Items} → IsGrammar g → IsStartCore g a → IsClosure g a c → IsCanonicalStart g c
start_closes {a = a} m h k = record {
  items = core_closes (start_core h) k;
  looks = core_closes_looks (start_core h) (start_core_looks a m h) k;
}

-- the core items after a longer list are those before its last symbol, moved
pub moved_of_core_item :
    {g : Grammar} → IsGrammar g → {v : List Symbol} {p d : ℕ} (w : List Symbol) (x : Symbol) → IsCoreItem g v p d → v ≡ w ++ x ∷ []
    → Moved g x (Stands g w) p d
moved_of_core_item m w x (merging.IsCoreItem.start s) e = absurd (push_not_empty w x (sym e ∙ start_stands_first m s refl refl))
moved_of_core_item m w x (merging.IsCoreItem.moved s) e = let back = stands_back w x s e in set.Moved.moved back.0 back.1

-- and these, moved, are of that core
pub core_item_of_moved : {g : Grammar} {w : List Symbol} {x : Symbol} {p d : ℕ} → Moved g x (Stands g w) p d → IsCoreItem g (w ++ x ∷ []) p d
core_item_of_moved (set.Moved.moved s b) = merging.IsCoreItem.moved (item.Stands.advance s b.1)

-- an item with its dot moved over a symbol looks after a longer list where it looked before
pub moved_looks :
    {g : Grammar} {w : List Symbol} {x : Symbol} {p d t : ℕ} → Moved g x (λ q e. Looks g w q e t) p d → Looks g (w ++ x ∷ []) p d t
moved_looks (set.Moved.moved l b) = item.Looks.advance l b.1

-- and only there
pub moved_of_looks :
    {g : Grammar} → IsGrammar g → {v : List Symbol} {p d t : ℕ} (w : List Symbol) (x : Symbol) → IsCoreItem g v p d → Looks g v p d t → v ≡ w ++ x ∷ []
    → Moved g x (λ q e. Looks g w q e t) p d
moved_of_looks m w x (merging.IsCoreItem.start s) l e = absurd (push_not_empty w x (sym e ∙ start_stands_first m s refl refl))
moved_of_looks m w x (merging.IsCoreItem.moved s) l e = let back = looks_back w x l e in set.Moved.moved back.0 back.1

-- where an item set has exactly what stands after a list, its goto has the core after the longer list
pub goto_core :
    {g : Grammar} {w : List Symbol} {x : Symbol} (b c : Items) → IsGrammar g → ((p d : ℕ) → HasItem c p d ↔ Stands g w p d)
    → ((p d : ℕ) → HasItem b p d ↔ Moved g x (HasItem c) p d) → ((p : ℕ) × (d : ℕ) × HasItem c p d × IsBefore g p d x)
    → HasCoreAfter g (w ++ x ∷ []) b
goto_core {g} {w} {x} b c m h k i = record {
  items = λ p d. (
    λ j. core_item_of_moved (moved_mono (λ q e. (h q e).0) ((k p d).0 j)),
    λ j. (k p d).1 (moved_mono (λ q e. (h q e).1) (moved_of_core_item m w x j refl)),
  );
  some = (i.0, suc i.1, (k i.0 (suc i.1)).1 (set.Moved.moved i.2 i.3));
}

-- and looks exactly where that core looks
pub goto_core_looks :
    {g : Grammar} {w : List Symbol} {x : Symbol} {b c : Items} → IsGrammar g → ((p d : ℕ) → HasItem c p d ↔ Stands g w p d)
    → ((p d t : ℕ) → LooksIn c p d t ↔ Looks g w p d t) → IsGoto g c x b → HasCoreAfter g (w ++ x ∷ []) b → LooksAfter g (w ++ x ∷ []) b
goto_core_looks {g} {w} {x} m h k n core p d t i = (
  λ l. moved_looks (moved_mono (λ q e. (k q e t).0) ((n.looks p d t).0 l)),
  λ l. (n.looks p d t).1 (moved_mono (λ q e. (k q e t).1) (moved_of_looks m w x ((core.items p d).0 i) l refl)),
)

-- an item stands after a longer list only if one before its last symbol stands after the shorter
pub before_last :
    {g : Grammar} {v : List Symbol} {p d : ℕ} (w : List Symbol) (x : Symbol) → Stands g v p d → v ≡ w ++ x ∷ []
    → (q : ℕ) × (e : ℕ) × Stands g w q e × IsBefore g q e x
before_last w x item.Stands.begin k = absurd (push_not_empty w x (sym k))
before_last w x (item.Stands.expand s e h) k = before_last w x s k
before_last {g} w x (item.Stands.advance {w = u} {p = p} {d = d} {x = z} {y = y} s e) k =
    let both = push_same u w z x k in (p, d, rw (← both.0) s, (y, rw (← both.1) e))

-- an item set with the items of a core after a list has that core
pub core_same : {g : Grammar} {w : List Symbol} {a b : Items} → HasCoreAfter g w a → SameItems a b → HasCoreAfter g w b
core_same m h = record {
  items = λ p d. (λ i. (m.items p d).0 ((h p d).1 i), λ i. (h p d).0 ((m.items p d).1 i));
  some = (m.some.0, m.some.1, (h m.some.0 m.some.1).0 m.some.2);
}
