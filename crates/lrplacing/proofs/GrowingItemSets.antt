-- item sets that grow with their items kept: what is contained, crosses, is closed or moved stays so
use Rattle.std.proofs.Common.{◌≡◌, ℕ, inl, inr, ◌↔◌, arith}
use Rattle.lrspec.specs.grammars.Grammar.{Symbol, Grammar}
use Rattle.lrspec.specs.grammars.ItemSets as set
use Rattle.lrspec.specs.grammars.ItemSets.{Items, HasItem, IsContained, ClosedItem, Moved}
use Rattle.lrspec.specs.merging.WeakCompatibility.{SameItems, Cross, IsUnion}
use Rattle.lrspec.proofs.grammars.Closures.{closed_item_mono, moved_mono}

-- an item set has its own items
pub same_itself : (a : Items) → SameItems a a
same_itself a p d = (λ h. h, λ h. h)

-- having the same items goes both ways
pub same_back : (a b : Items) → SameItems a b → SameItems b a
same_back a b s p d = ((s p d).1, (s p d).0)

-- having the same items goes on
pub same_then : (a b c : Items) → SameItems a b → SameItems b c → SameItems a c
same_then a b c s t p d = (λ h. (t p d).0 ((s p d).0 h), λ h. (s p d).1 ((t p d).1 h))

-- an item set is contained in one that is equal
pub contained_equal : (a b : Items) → b ≡ a → IsContained a b
contained_equal a b e = record { items = λ p d. rw e (λ h. h); looks = λ p d t. rw e (λ h. h) }

-- the union contains the first
pub union_contains : (a b c : Items) → IsUnion a b c → IsContained a c
union_contains a b c u = record { items = λ p d. (u.items p d).1; looks = λ p d t l. (u.looks p d t).1 (inl l) }

-- and the second, which has the same items
pub union_contains_second : (a b c : Items) → SameItems a b → IsUnion a b c → IsContained b c
union_contains_second a b c s u = record {
  items = λ p d h. (u.items p d).1 ((s p d).1 h);
  looks = λ p d t l. (u.looks p d t).1 (inr l);
}

-- item sets that cross still cross when they have grown
pub cross_grown : (a b c d : Items) → IsContained a c → IsContained b d → Cross a b → Cross c d
cross_grown a b c d h k m = record {
  p = m.p;
  d = m.d;
  q = m.q;
  e = m.e;
  apart = m.apart;
  meet = (m.meet.0, h.looks m.p m.d m.meet.0 m.meet.1, k.looks m.q m.e m.meet.0 m.meet.2);
}

-- the items of gotos of closures go by the items of the cores
pub moved_same :
    {g : Grammar} {x : Symbol} (a b : Items) → SameItems a b → (p d : ℕ)
    → Moved g x (ClosedItem g (HasItem a)) p d ↔ Moved g x (ClosedItem g (HasItem b)) p d
moved_same a b s p d = (
  moved_mono (λ q e. closed_item_mono (λ i f. (s i f).0)),
  moved_mono (λ q e. closed_item_mono (λ i f. (s i f).1)),
)

-- no dot at 0 was moved
pub moved_above_zero : {g : Grammar} {x : Symbol} {I : ℕ → ℕ → Type 0} {p d : ℕ} → Moved g x I p d → d ≡ 0 → ⊥
moved_above_zero (set.Moved.moved {d = d} i b) e = omega arith
