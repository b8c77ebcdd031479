-- pairs of items that pass or clash, by their bits and by their places
use Rattle.std.proofs.Common.{◌≡◌, ℕ, ◌<◌, ◌≤◌, Bool, List, None, Some, length, sym, ap, ◌∙◌, ◌⊎◌, inl, inr, ⊎_elim, arith}
use Rattle.std.specs.Prelude.{slice_get}
use Rattle.std.proofs.lemmas.Option.{same_Some, slice_get_within, slice_get_past}
use Rattle.lrspec.specs.grammars.ItemSets.{Items, item_at}
use Rattle.lrspec.specs.merging.WeakCompatibility.{SameItems, Apart, Meet, Passes, IsWeaklyCompatible, Clash}
use Rattle.lrbits.specs.Bits.{Intersect}
use Rattle.lritems.specs.Merging.{BitsPass, BitsClash, PassAt, PassesWithLater}
use Rattle.lritems.proofs.ItemsByPlace.{place_of_item}
use Rattle.lrclosing.proofs.JoinedLookaheads.{some_of}

-- two items of `a` and of `b`, by their bits in both
module _
    (a b : Items) (p d q e : ℕ) (ai aj bi bj : List Bool) (x : item_at a p d ≡ Some ai) (y : item_at a q e ≡ Some aj) (z : item_at b p d ≡ Some bi)
    (w : item_at b q e ≡ Some bj)
  where
    meet : (c f : Items) (i j k l : ℕ) (v u : List Bool) → item_at c i j ≡ Some v → item_at f k l ≡ Some u → Intersect v u → Meet c i j f k l
    meet c f i j k l v u g h m = (m.0, rw g m.1, rw h m.2)

    intersect : (c f : Items) (i j k l : ℕ) (v u : List Bool) → item_at c i j ≡ Some v → item_at f k l ≡ Some u → Meet c i j f k l → Intersect v u
    intersect c f i j k l v u g h m = (m.0, rw g at m.1, rw h at m.2)

    pub passes_here : BitsPass ai aj bi bj → Passes a b p d q e
    passes_here (inl h) = inl (λ m. h.0 (intersect a b p d q e ai bj x w m), λ m. h.1 (intersect b a p d q e bi aj z y m))
    passes_here (inr (inl h)) = inr (inl (meet a a p d q e ai aj x y h))
    passes_here (inr (inr h)) = inr (inr (meet b b p d q e bi bj z w h))

    apart_here : BitsClash ai aj bi bj → Apart p d q e
    apart_here h i j =
        let k : Some ai ≡ Some aj = sym x ∙ (rw (← i, ← j) at y) in
        let same : ai ≡ aj = cc in
        ⊎_elim
        (λ (m : Intersect ai bj). let n : Some bi ≡ Some bj = sym z ∙ (rw (← i, ← j) at w) in let s : bj ≡ bi = cc in h.2 (m.0, rw s at m.2, m.2))
        (λ (m : Intersect bi aj). h.1 (m.0, rw (← same) at m.2, m.2))
        h.0

    pub clash_here : BitsClash ai aj bi bj → Clash a b
    clash_here h =
        ⊎_elim
        (λ (m : Intersect ai bj).
        record {
          cross = record { p = p; d = d; q = q; e = e; apart = apart_here h; meet = meet a b p d q e ai bj x w m };
          first = λ k. h.1 (intersect a a p d q e ai aj x y k);
          second = λ k. h.2 (intersect b b p d q e bi bj z w k);
        })
        (λ (m : Intersect bi aj).
        record {
          cross = record { p = q; d = e; q = p; e = d; apart = λ i j. apart_here h (sym i) (sym j); meet = meet a b q e p d aj bi y z (m.0, m.2, m.1) };
          first = λ k. h.1 (intersect a a p d q e ai aj x y (k.0, k.2, k.1));
          second = λ k. h.2 (intersect b b p d q e bi bj z w (k.0, k.2, k.1));
        })
        h.0

-- two items that share a token in the first item set pass
pub passes_sharing :
    (a b : Items) (p d q e : ℕ) (ai aj : List Bool) → item_at a p d ≡ Some ai → item_at a q e ≡ Some aj → Intersect ai aj → Passes a b p d q e
passes_sharing a b p d q e ai aj x y m = inr (inl (m.0, rw x m.1, rw y m.2))

-- two items pass, whichever is named first
passes_turned : (a b : Items) (p d q e : ℕ) → Passes a b p d q e → Passes a b q e p d
passes_turned a b p d q e (inl h) = inl (λ m. h.1 (m.0, m.2, m.1), λ m. h.0 (m.0, m.2, m.1))
passes_turned a b p d q e (inr (inl h)) = inr (inl (h.0, h.2, h.1))
passes_turned a b p d q e (inr (inr h)) = inr (inr (h.0, h.2, h.1))

-- item sets with the same items, each of which passes with those behind it
pub compatible_from_later : (a b : Items) → SameItems a b → ((i : ℕ) → i < length a → PassesWithLater a b i) → IsWeaklyCompatible a b
compatible_from_later a b same passes = record {
  items = same;
  pairs = λ p d q e apart h k.
      let v = some_of (item_at a p d) h in
      let w = some_of (item_at a q e) k in
      let i = place_of_item a p d v.0 v.1 in
      let j = place_of_item a q e w.0 w.1 in
      elim (places i.0 j.0) [
        | inl l ↦ passes i.0 (slice_get_within a i.0 ((p, d), v.0) i.1) j.0 l ((p, d), v.0) ((q, e), w.0) i.1 j.1
        | inr m ↦ elim m [
          | inl l ↦ passes_turned a b q e p d (passes j.0 (slice_get_within a j.0 ((q, e), w.0) j.1) i.0 l ((q, e), w.0) ((p, d), v.0) j.1 i.1)
          | inr s ↦
              let at : slice_get a j.0 ≡ Some ((p, d), v.0) = rw s at i.1 in
              let both = same_Some ((p, d), v.0) ((q, e), w.0) (sym at ∙ j.1) in
              absurd (apart (ap (λ x. x.0.0) both) (ap (λ x. x.0.1) both))
        ]
      ];
}
  where
    places : (i j : ℕ) → (i < j) ⊎ (j < i) ⊎ (i ≡ j)
    places i j = grind arith

-- a pair of places more has passed
pub passed_turn :
    (a b : Items) (i j : ℕ) (e f : (ℕ × ℕ) × List Bool) → slice_get a i ≡ Some e → slice_get a j ≡ Some f → Passes a b e.0.0 e.0.1 f.0.0 f.0.1 → PassAt a b i j
passed_turn a b i j e f x y h c d z w =
    let s : Some e ≡ Some c = sym x ∙ z in
    let t : Some f ≡ Some d = sym y ∙ w in
    let one : c ≡ e = cc in
    let other : d ≡ f = cc in
    rw (one, other) h

-- all places behind one have passed where those up to the end have
pub all_passed : (a b : Items) (i j : ℕ) → length a ≤ j → ((k : ℕ) → k < j → i < k → PassAt a b i k) → PassesWithLater a b i
all_passed a b i j l passed k behind e f x y = elim (below_or_not k j) [
  | inl h ↦ passed k h behind e f x y
  | inr h ↦ let n : None ≡ Some f = sym (slice_get_past a k (omega (arith, l, h))) ∙ y in cc
]
  where
    below_or_not : (k j : ℕ) → (k < j) ⊎ (j ≤ k)
    below_or_not k j = grind arith
