-- the items of a goto that isn't made
use Rattle.std.proofs.Common.{◌≡◌, ℕ, zero, suc, ◌+◌, ◌<◌, ◌≤◌, Bool, true, false, not, ◌&&◌, List, [], ◌∷◌, ◌++◌, Some, map, drop, length, get_or, refl, sym, ap, ◌∙◌, append_assoc, append-nil, add-one, drop-cons, arith, inl, inr}
use Rattle.std.specs.Prelude.{IsTrue, ◌↔◌}
use Rattle.std.proofs.lemmas.Bool.{and_from, and_parts}
use Rattle.std.proofs.lemmas.List.{length-map, map-append, drop_all}
use Rattle.lrspec.specs.grammars.ItemSets.{Items, item_at, AreUpwards}
use Rattle.lrspec.proofs.grammars.ListMembers.{Among}
use Rattle.lritems.specs.ItemsOf.{items_of, Agree}
use Rattle.lritems.proofs.ItemsAscending.{ascending_from_upwards, same_from_agree}
use Rattle.lrclosing.proofs.AscendingItems.{item_from_among}
use Rattle.lrclosing.proofs.ItemKeys.{Key}

-- an item whose lookaheads are shown by `shows`, and several
abbrev pub item_shown : {T R : Type 0} → (T → ℕ) → (R → List Bool) → Key T × R → (ℕ × ℕ) × List Bool
item_shown number shows e = ((number e.0.0.0, number e.0.1.0), shows e.1)

abbrev pub items_shown : {T R : Type 0} → (T → ℕ) → (R → List Bool) → List (Key T × R) → Items
items_shown number shows es = map (item_shown number shows) es

-- a test by what its denial says
denied : (a b : Bool) → a ≡ not b → not a ≡ b
denied a true h = rw h refl
denied a false h = rw h refl

-- keys that are equal have the same numbers
pub same_numbers :
    {T : Type 0} (number : T → ℕ) (eq : T → T → Bool) → ((x y : T) → IsTrue (eq x y) ↔ (number x ≡ number y)) → (j k : Key T)
    → true ≡ (eq j.0.0 k.0.0 && eq j.1.0 k.1.0) → (number j.0.0 ≡ number k.0.0) × (number j.1.0 ≡ number k.1.0)
same_numbers number eq same j k h =
    let b = and_parts (eq j.0.0 k.0.0) (eq j.1.0 k.1.0) (sym h) in
    ((same j.0.0 k.0.0).0 b.0, (same j.1.0 k.1.0).0 b.1)

abbrev numbers_of : {T : Type 0} → (T → ℕ) → Key T → ℕ × ℕ
numbers_of number k = (number k.0.0, number k.1.0)

-- so have those that a test for another one denies, and keys that it finds to be others have other numbers
pub numbers_from_denied :
    {T : Type 0} (number : T → ℕ) (eq : T → T → Bool) → ((x y : T) → IsTrue (eq x y) ↔ (number x ≡ number y)) → (j k : Key T)
    → false ≡ not (eq j.0.0 k.0.0 && eq j.1.0 k.1.0) → numbers_of number j ≡ numbers_of number k
numbers_from_denied number eq same j k h =
    let s = same_numbers number eq same j k (denied false (eq j.0.0 k.0.0 && eq j.1.0 k.1.0) h) in
    rw (s.0, s.1) refl

pub numbers_apart :
    {T : Type 0} (number : T → ℕ) (eq : T → T → Bool) → ((x y : T) → IsTrue (eq x y) ↔ (number x ≡ number y)) → (j k : Key T)
    → true ≡ not (eq j.0.0 k.0.0 && eq j.1.0 k.1.0) → numbers_of number j ≡ numbers_of number k → ⊥
numbers_apart number eq same j k h e =
    let n : false ≡ (eq j.0.0 k.0.0 && eq j.1.0 k.1.0) = denied true (eq j.0.0 k.0.0 && eq j.1.0 k.1.0) h in
    let both = and_from (eq j.0.0 k.0.0) (eq j.1.0 k.1.0) ((same j.0.0 k.0.0).1 (ap (λ p. p.0) e)) ((same j.1.0 k.1.0).1 (ap (λ p. p.1) e)) in
    let t : false ≡ true = n ∙ both in
    cc

-- item sets that agree are the same where they come upwards
pub apart_from_other : (a b : Items) → AreUpwards a → AreUpwards b → (a ≡ b → ⊥) → IsTrue false ↔ Agree a b
apart_from_other a b u w n =
    (λ h. cc, λ h. absurd (n (same_from_agree a b (ascending_from_upwards a u) (ascending_from_upwards b w) h)))

-- a walk in step goes on with the same one
pub same_turn : {X : Type 0} (P : Type 0) (c d : List X) (e f : X) → e ≡ f → (P ↔ (f ∷ c ≡ e ∷ d)) → P ↔ (c ≡ d)
same_turn P c d e f s h = (λ p. let j : f ∷ c ≡ e ∷ d = h.0 p in cc, λ t. h.1 (rw (s, t) refl))

-- a walk in step is at others
pub other_turn : {X : Type 0} (a b c d : List X) (e f : X) → (e ≡ f → ⊥) → ((a ≡ b) ↔ (f ∷ c ≡ e ∷ d)) → a ≡ b → ⊥
other_turn a b c d e f n h i = let j : f ∷ c ≡ e ∷ d = h.0 i in n cc

-- the next item, pushed behind those before it
pub push_next :
    {T : Type 0} (number : T → ℕ) (es fs : List (Key T × List Bool)) (k : Key T) (v : List Bool) (left whole : Items) → fs ≡ es ++ (k, v) ∷ []
    → items_of number es ++ ((number k.0.0, number k.1.0), v) ∷ left ≡ whole → items_of number fs ++ left ≡ whole
push_next number es fs k v left whole p h =
    let pushed : items_of number fs ≡ items_of number es ++ ((number k.0.0, number k.1.0), v) ∷ [] = rw p (map-append _ es ((k, v) ∷ [])) in
    rw (pushed, append_assoc) h

-- nothing more is to come
pub none_more : (a left whole : Items) → left ≡ [] → a ++ left ≡ whole → a ≡ whole
none_more a left whole e h = sym (append-nil a) ∙ (rw e at h)

module _ {T R : Type 0} (number : T → ℕ) (shows : R → List Bool) where
  -- one item more at the end
  pub pushed_shown :
      (es fs : List (Key T × R)) (k : Key T) (r : R) → fs ≡ es ++ (k, r) ∷ []
      → items_shown number shows fs ≡ items_shown number shows es ++ ((number k.0.0, number k.1.0), shows r) ∷ []
  pushed_shown es fs k r e = rw e (map-append _ es ((k, r) ∷ []))

  -- what is left begins with the item at hand
  pub left_shown :
      (all : List (Key T × R)) (i : ℕ) (e : Key T × R) → i < length all → e ≡ get_or all i e
      → items_shown number shows (drop i all) ≡ ((number e.0.0.0, number e.0.1.0), shows e.1) ∷ items_shown number shows (drop (i + 1) all)
  left_shown all i e l s = rw (add-one, drop-cons all i e l, ← s) refl

  among_shown :
      (all : List (Key T × R)) (i : ℕ) (e : Key T × R) → i < length all → e ≡ get_or all i e
      → Among {X = (ℕ × ℕ) × List Bool} ((number e.0.0.0, number e.0.1.0), shows e.1) (items_shown number shows all)
  among_shown [] i e l s = absurd (omega arith)
  among_shown (f ∷ all) zero e l s = inl (rw s refl)
  among_shown (f ∷ all) (suc i) e l s = inr (among_shown all i e (omega arith) s)

  -- where the items come upwards, the item at hand is looked up among all
  pub found_shown :
      (all : List (Key T × R)) (i : ℕ) (e : Key T × R) → AreUpwards (items_shown number shows all) → i < length all → e ≡ get_or all i e
      → item_at (items_shown number shows all) (number e.0.0.0) (number e.0.1.0) ≡ Some (shows e.1)
  found_shown all i e u l s =
      item_from_among (items_shown number shows all) ((number e.0.0.0, number e.0.1.0), shows e.1) (ascending_from_upwards (items_shown number shows all) u)
      (among_shown all i e l s)

  -- at the end nothing is left
  pub none_left : (all : List (Key T × R)) (i : ℕ) → length all ≤ i → items_shown number shows (drop i all) ≡ []
  none_left all i l = rw (drop_all i all l) refl

  -- item sets of two lengths are apart
  pub other_length :
      (es : List (Key T × List Bool)) (all : List (Key T × R)) → (length all ≡ length es → ⊥) → items_of number es ≡ items_shown number shows all → ⊥
  other_length es all n e = n (sym (length-map all _) ∙ sym (ap length e) ∙ length-map es _)

  -- the item at hand, pushed behind those before it
  pub push_turn :
      (es fs : List (Key T × List Bool)) (all : List (Key T × R)) (i : ℕ) (e : Key T × R) (v : List Bool) (whole : Items) → i < length all → e ≡ get_or all i e
      → v ≡ shows e.1 → fs ≡ es ++ (e.0, v) ∷ [] → items_of number es ++ items_shown number shows (drop i all) ≡ whole
      → items_of number fs ++ items_shown number shows (drop (i + 1) all) ≡ whole
  push_turn es fs all i e v whole l s b p h =
      push_next number es fs e.0 v (items_shown number shows (drop (i + 1) all)) whole p (rw b (rw (left_shown all i e l s) at h))
