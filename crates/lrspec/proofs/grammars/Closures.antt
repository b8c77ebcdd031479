-- closures and gotos are least and unique, and grow with the item set
use Rattle.std.proofs.Common.{ℕ, Bool, false, List, Option, None, Some, refl, ◌↔◌}
use Rattle.std.specs.Prelude.{slice_index_or, IsTrue}
use Rattle.std.specs.Option.{IsSome, IsSomeAnd}
use Rattle.lrspec.specs.grammars.Grammar.{Symbol, Grammar}
use Rattle.lrspec.specs.grammars.ItemSets as set
use Rattle.lrspec.specs.grammars.ItemSets.{Items, item_at, HasItem, LooksIn, IsContained, IsClosed, ClosedItem, ClosedLook, IsClosure, IsBefore, Moved, IsGoto}
use Rattle.lrspec.specs.merging.WeakCompatibility.{SameItems}

-- a value with a bit that is set is a value
some_of_and : (o : Option (List Bool)) (t : ℕ) → IsSomeAnd o (λ v. IsTrue (slice_index_or v t false)) → IsSome o
some_of_and None t h = absurd h
some_of_and (Some v) t h = refl

-- an item set has each item that looks at a token in it
pub has_of_looks : (a : Items) (p d t : ℕ) → LooksIn a p d t → HasItem a p d
has_of_looks a p d t h = some_of_and (item_at a p d) t h

-- two item sets look at the same tokens at each item
abbrev pub SameLooks : Items → Items → Type 0
SameLooks a b = (p d t : ℕ) → LooksIn a p d t ↔ LooksIn b p d t

-- an item set contains itself
pub contained_itself : (a : Items) → IsContained a a
contained_itself a = record { items = λ p d h. h; looks = λ p d t h. h }

-- containing goes on
pub contained_then : (a b c : Items) → IsContained a b → IsContained b c → IsContained a c
contained_then a b c h k = record {
  items = λ p d i. k.items p d (h.items p d i);
  looks = λ p d t l. k.looks p d t (h.looks p d t l);
}

-- a closed item set that contains the core has each item of the closure
pub closed_item_within : {g : Grammar} {a b : Items} → IsContained a b → IsClosed g b → {p d : ℕ} → ClosedItem g (HasItem a) p d → HasItem b p d
closed_item_within h k (set.ClosedItem.core {p = p} {d = d} i) = h.items p d i
closed_item_within h k (set.ClosedItem.expand {p = p} {d = d} {r = r} {q = q} {y = y} c e i) = k.items p d r q y (closed_item_within h k c) e i

-- and looks at each token of the closure
pub closed_look_within :
    {g : Grammar} {a b : Items} → IsContained a b → IsClosed g b → {p d t : ℕ} → ClosedLook g (HasItem a) (LooksIn a) p d t → LooksIn b p d t
closed_look_within h k (set.ClosedLook.core {p = p} {d = d} {t = t} l) = h.looks p d t l
closed_look_within h k (set.ClosedLook.begins {p = p} {d = d} {r = r} {q = q} {t = t} {y = y} c e i b) =
    k.begins p d r q t y (closed_item_within h k c) e i b
closed_look_within h k (set.ClosedLook.inherit {p = p} {d = d} {r = r} {q = q} {t = t} {y = y} c e i n) =
    k.inherit p d r q t y (closed_look_within h k c) e i n

-- the closure contains its core
pub closure_contains : {g : Grammar} {a c : Items} → IsClosure g a c → IsContained a c
closure_contains m = record {
  items = λ p d h. (m.items p d).1 (set.ClosedItem.core h);
  looks = λ p d t h. (m.looks p d t).1 (set.ClosedLook.core h);
}

-- the closure is closed
pub closure_closed : {g : Grammar} {a c : Items} → IsClosure g a c → IsClosed g c
closure_closed m = record {
  items = λ p d r q y h e i. (m.items q 0).1 (set.ClosedItem.expand ((m.items p d).0 h) e i);
  begins = λ p d r q t y h e i b. (m.looks q 0 t).1 (set.ClosedLook.begins ((m.items p d).0 h) e i b);
  inherit = λ p d r q t y h e i n. (m.looks q 0 t).1 (set.ClosedLook.inherit ((m.looks p d t).0 h) e i n);
}

-- the closure is contained in each closed item set that contains its core
pub closure_least : {g : Grammar} {a b c : Items} → IsClosure g a c → IsContained a b → IsClosed g b → IsContained c b
closure_least m h k = record {
  items = λ p d i. closed_item_within h k ((m.items p d).0 i);
  looks = λ p d t l. closed_look_within h k ((m.looks p d t).0 l);
}

-- an item set that contains the core, is closed and has nothing that the rules don't put in is the closure
pub closure_made :
    {g : Grammar} {a c : Items} → IsContained a c → IsClosed g c → ((p d : ℕ) → HasItem c p d → ClosedItem g (HasItem a) p d)
    → ((p d t : ℕ) → LooksIn c p d t → ClosedLook g (HasItem a) (LooksIn a) p d t) → IsClosure g a c
closure_made h k i l = record {
  items = λ p d. (i p d, λ c. closed_item_within h k c);
  looks = λ p d t. (l p d t, λ c. closed_look_within h k c);
}

-- a closed item set is its own closure
pub closed_closure : {g : Grammar} (c : Items) → IsClosed g c → IsClosure g c c
closed_closure c k = closure_made (contained_itself c) k (λ p d h. set.ClosedItem.core h) (λ p d t h. set.ClosedLook.core h)

-- a larger core has a larger closure
pub closed_item_mono :
    {g : Grammar} {A B : ℕ → ℕ → Type 0} → ((p d : ℕ) → A p d → B p d) → {p d : ℕ} → ClosedItem g A p d → ClosedItem g B p d
closed_item_mono h (set.ClosedItem.core {p = p} {d = d} i) = set.ClosedItem.core (h p d i)
closed_item_mono h (set.ClosedItem.expand c e i) = set.ClosedItem.expand (closed_item_mono h c) e i

-- which looks at more
pub closed_look_mono :
    {g : Grammar} {A B : ℕ → ℕ → Type 0} {K L : ℕ → ℕ → ℕ → Type 0} → ((p d : ℕ) → A p d → B p d)
    → ((p d t : ℕ) → K p d t → L p d t) → {p d t : ℕ} → ClosedLook g A K p d t → ClosedLook g B L p d t
closed_look_mono h k (set.ClosedLook.core {p = p} {d = d} {t = t} l) = set.ClosedLook.core (k p d t l)
closed_look_mono h k (set.ClosedLook.begins c e i b) = set.ClosedLook.begins (closed_item_mono h c) e i b
closed_look_mono h k (set.ClosedLook.inherit c e i n) = set.ClosedLook.inherit (closed_look_mono h k c) e i n

-- a closed item set that contains the core, or a larger one, contains the closure
pub closure_mono : {g : Grammar} {a b c d : Items} → IsClosure g a c → IsClosure g b d → IsContained a b → IsContained c d
closure_mono {a = a} {b = b} {d = d} m k h = closure_least m (contained_then a b d h (closure_contains k)) (closure_closed k)

-- cores with the same items have closures with the same items
pub closure_same_items : {g : Grammar} {a b c d : Items} → IsClosure g a c → IsClosure g b d → SameItems a b → SameItems c d
closure_same_items m k h p d = (
  λ i. (k.items p d).1 (closed_item_mono (λ q e. (h q e).0) ((m.items p d).0 i)),
  λ i. (m.items p d).1 (closed_item_mono (λ q e. (h q e).1) ((k.items p d).0 i)),
)

-- closing twice is closing once
pub closure_twice_items : {g : Grammar} {a c d : Items} → IsClosure g a c → IsClosure g c d → SameItems c d
closure_twice_items {c = c} m k p d = ((closure_contains k).items p d, (closure_least k (contained_itself c) (closure_closed m)).items p d)

-- and adds no token
pub closure_twice_looks : {g : Grammar} {a c d : Items} → IsClosure g a c → IsClosure g c d → SameLooks c d
closure_twice_looks {c = c} m k p d t = ((closure_contains k).looks p d t, (closure_least k (contained_itself c) (closure_closed m)).looks p d t)

-- two closures of one core have the same items and look at the same tokens
pub closure_unique_items : {g : Grammar} {a c d : Items} → IsClosure g a c → IsClosure g a d → SameItems c d
closure_unique_items {a = a} m k p d = ((closure_mono m k (contained_itself a)).items p d, (closure_mono k m (contained_itself a)).items p d)

-- at each item
pub closure_unique_looks : {g : Grammar} {a c d : Items} → IsClosure g a c → IsClosure g a d → SameLooks c d
closure_unique_looks {a = a} m k p d t = ((closure_mono m k (contained_itself a)).looks p d t, (closure_mono k m (contained_itself a)).looks p d t)

-- moving dots keeps what is contained
pub moved_mono : {g : Grammar} {x : Symbol} {A B : ℕ → ℕ → Type 0} → ((p d : ℕ) → A p d → B p d) → {p d : ℕ} → Moved g x A p d → Moved g x B p d
moved_mono h (set.Moved.moved {p = p} {d = d} i b) = set.Moved.moved (h p d i) b

-- a larger item set has larger gotos
pub goto_mono : {g : Grammar} {x : Symbol} {a b c d : Items} → IsGoto g a x c → IsGoto g b x d → IsContained a b → IsContained c d
goto_mono m k h = record {
  items = λ p d i. (k.items p d).1 (moved_mono h.items ((m.items p d).0 i));
  looks = λ p d t l. (k.looks p d t).1 (moved_mono (λ q e. h.looks q e t) ((m.looks p d t).0 l));
}

-- item sets with the same items have gotos with the same items
pub goto_same_items : {g : Grammar} {x : Symbol} {a b c d : Items} → IsGoto g a x c → IsGoto g b x d → SameItems a b → SameItems c d
goto_same_items m k h p d = (
  λ i. (k.items p d).1 (moved_mono (λ q e. (h q e).0) ((m.items p d).0 i)),
  λ i. (m.items p d).1 (moved_mono (λ q e. (h q e).1) ((k.items p d).0 i)),
)

-- two gotos of one item set on one symbol have the same items and look at the same tokens
pub goto_unique_items : {g : Grammar} {x : Symbol} {a c d : Items} → IsGoto g a x c → IsGoto g a x d → SameItems c d
goto_unique_items {a = a} m k p d = ((goto_mono m k (contained_itself a)).items p d, (goto_mono k m (contained_itself a)).items p d)

-- at each item
pub goto_unique_looks : {g : Grammar} {x : Symbol} {a c d : Items} → IsGoto g a x c → IsGoto g a x d → SameLooks c d
goto_unique_looks {a = a} m k p d t = ((goto_mono m k (contained_itself a)).looks p d t, (goto_mono k m (contained_itself a)).looks p d t)

-- the next symbols of item sets with the same items are the same
pub before_same_items :
    (g : Grammar) (a b : Items) (x : Symbol) → SameItems a b
    → ((p : ℕ) × (d : ℕ) × HasItem a p d × IsBefore g p d x) → (p : ℕ) × (d : ℕ) × HasItem b p d × IsBefore g p d x
before_same_items g a b x h i = (i.0, i.1, (h i.0 i.1).0 i.2, i.3)
