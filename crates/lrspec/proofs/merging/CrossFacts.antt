-- item sets that cross or clash, and those that cannot
use Rattle.std.proofs.Common.{◌≡◌, ℕ, ◌≢◌, ◌<◌, length, sym, ◌∙◌, inl, inr, ⊎_elim}
use Rattle.std.proofs.lemmas.Bool.{cases_eq}
use Rattle.lrspec.specs.grammars.ItemSets.{Items, HasItem, IsContained}
use Rattle.lrspec.specs.merging.WeakCompatibility.{SameItems, IsWeaklyCompatible, Cross, Clash}
use Rattle.lrspec.specs.merging.Graph.{Graph, core_of, CoresCross}
use Rattle.lrspec.proofs.grammars.Closures.{has_of_looks}

-- two item sets that clash are not weakly compatible
pub clash_refutes : {a b : Items} → Clash a b → IsWeaklyCompatible a b → ⊥
clash_refutes {a} {b} k m =
    let c = k.cross in
    let (t, l, r) = c.meet in
    elim (m.pairs c.p c.d c.q c.e c.apart (has_of_looks a c.p c.d t l) ((m.items c.q c.e).1 (has_of_looks b c.q c.e t r))) [
      | inl n ↦ n.0 c.meet
      | inr (inl h) ↦ k.first h
      | inr (inr h) ↦ k.second h
    ]

-- crossing goes both ways
pub cross_swapped : {a b : Items} → Cross a b → Cross b a
cross_swapped c = record {
  p = c.q;
  d = c.e;
  q = c.p;
  e = c.d;
  apart = λ i j. c.apart (sym i) (sym j);
  meet = let (t, l, r) = c.meet in (t, r, l);
}

-- larger item sets cross where smaller ones do
pub cross_grows : {a b c d : Items} → IsContained a c → IsContained b d → Cross a b → Cross c d
cross_grows m n c = record {
  p = c.p;
  d = c.d;
  q = c.q;
  e = c.e;
  apart = c.apart;
  meet = let (t, l, r) = c.meet in (t, m.looks c.p c.d t l, n.looks c.q c.e t r);
}

-- two item sets of which each has one item, the same one, do not cross
pub one_item_never_crosses : {a b : Items} (p d : ℕ) → ((q e : ℕ) → HasItem a q e → (q ≡ p) × (e ≡ d)) → SameItems a b → Cross a b → ⊥
one_item_never_crosses {a} {b} p d one same c =
    let (t, l, r) = c.meet in
    let (i, j) = one c.p c.d (has_of_looks a c.p c.d t l) in
    let (m, n) = one c.q c.e ((same c.q c.e).1 (has_of_looks b c.q c.e t r)) in
    c.apart (i ∙ sym m) (j ∙ sym n)

-- so no two states share a core of one item, where cores with the same items cross
pub no_core_of_one_item_twice :
    (h : Graph) → CoresCross h → (s u p d : ℕ) → s < length h → u < length h → ((q e : ℕ) → HasItem (core_of h s) q e → (q ≡ p) × (e ≡ d))
    → SameItems (core_of h s) (core_of h u) → s ≡ u
no_core_of_one_item_twice h m s u p d b c one same =
    ⊎_elim (λ (e : s ≡ u). e) (λ (n : s ≢ u). absurd (one_item_never_crosses p d one same (m s u b c n same))) (cases_eq s u)
