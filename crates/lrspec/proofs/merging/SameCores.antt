-- states of a graph whose cores have the same items and cross
use Rattle.std.proofs.Common.{◌≡◌, ℕ, ◌<◌, length, sym, inl, inr}
use Rattle.std.proofs.lemmas.Bool.{cases_eq}
use Rattle.lrspec.specs.grammars.ItemSets.{Items, HasItem}
use Rattle.lrspec.specs.merging.WeakCompatibility.{SameItems, Cross}
use Rattle.lrspec.specs.merging.Graph.{Graph, core_of, CoresCross}
use Rattle.lrspec.proofs.grammars.Closures.{has_of_looks}

-- item sets that cross, cross the other way round
pub cross_back : {a b : Items} → Cross a b → Cross b a
cross_back k = record {
  p = k.q;
  d = k.e;
  q = k.p;
  e = k.d;
  apart = λ i j. k.apart (sym i) (sym j);
  meet = (k.meet.0, k.meet.2, k.meet.1);
}

-- any two items of the item set are the same
abbrev pub HasOneItemAtMost : Items → Type 0
HasOneItemAtMost a = (p d q e : ℕ) → HasItem a p d → HasItem a q e → (p ≡ q) × (d ≡ e)

-- item sets of one item do not cross
pub one_item_does_not_cross : {a b : Items} → HasOneItemAtMost a → SameItems a b → Cross a b → ⊥
one_item_does_not_cross {a} {b} one same k =
    let i = has_of_looks a k.p k.d k.meet.0 k.meet.1 in
    let j = (same k.q k.e).1 (has_of_looks b k.q k.e k.meet.0 k.meet.2) in
    let (p, d) = one k.p k.d k.q k.e i j in
    k.apart p d

-- two states with one core item, which is the same, are the same state
pub one_item_one_state :
    (h : Graph) → CoresCross h → (s u : ℕ) → s < length h → u < length h → HasOneItemAtMost (core_of h s)
    → SameItems (core_of h s) (core_of h u) → s ≡ u
one_item_one_state h cross s u k l one same =
    elim (cases_eq s u) [ inl e ↦ e | inr differ ↦ absurd (one_item_does_not_cross one same (cross s u k l differ same)) ]
