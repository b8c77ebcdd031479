-- item sets that have the same items in the same order
use Rattle.std.proofs.Common.{◌≡◌, ℕ, zero, suc, Bool, true, false, cond, ◌&&◌, List, [], ◌∷◌, Option, Some, map, length, refl, sym, ap, ◌∙◌, inl, inr}
use Rattle.std.specs.Prelude.{◌==◌, IsTrue, ◌↔◌, slice_get}
use Rattle.std.specs.Option.{IsSome}
use Rattle.std.proofs.lemmas.List.{length-map}
use Rattle.lrspec.specs.grammars.ItemSets.{Items, item_at, HasItem, AreUpwards}
use Rattle.lrspec.specs.merging.WeakCompatibility.{SameItems}
use Rattle.lritems.specs.Merging.{HaveSameKeys}
use Rattle.lritems.proofs.ItemsAscending.{AllBehind, AreAscending, ascending_from_upwards, first_here, first_of_both, behind_from_has, not_both}
use Rattle.lrclosing.proofs.AscendingItems.{upwards_from_ascending}
use Rattle.lrclosing.proofs.WalksOverItems.{first_or_rest}

-- what is in a list stays in it behind one item more
has_or : (b : Bool) (v : List Bool) (o : Option (List Bool)) → IsSome o → IsSome (cond b (Some v) o)
has_or true v o h = refl
has_or false v o h = h

has_more : (e : (ℕ × ℕ) × List Bool) (es : Items) (p d : ℕ) → HasItem es p d → HasItem (e ∷ es) p d
has_more e es p d h = has_or ((p == e.0.0) && (d == e.0.1)) e.1 (item_at es p d) h

has_first : (e : (ℕ × ℕ) × List Bool) (es : Items) → HasItem (e ∷ es) e.0.0 e.0.1
has_first e es = rw (first_here e es) refl

has_from_keys : (a b : Items) → HaveSameKeys a b → (p d : ℕ) → HasItem a p d → HasItem b p d
has_from_keys [] b k p d h = cc
has_from_keys (e ∷ es) [] k p d h = let n : e.0 ∷ map (λ x. x.0) es ≡ [] = k in cc
has_from_keys (e ∷ es) (f ∷ fs) k p d h =
    let both : e.0 ∷ map (λ x. x.0) es ≡ f.0 ∷ map (λ x. x.0) fs = k in
    let key : f.0 ≡ e.0 = cc in
    let rest : map (λ x. x.0) es ≡ map (λ x. x.0) fs = cc in
    elim (first_or_rest e.0.0 e.0.1 e.1 es p d h) [
      | inl s ↦ rw (s.0, s.1, ← key) (has_first f fs)
      | inr i ↦ has_more f fs p d (has_from_keys es fs rest p d i)
    ]

-- lists with the same items in the same order have the same items
pub same_from_keys : (a b : Items) → HaveSameKeys a b → SameItems a b
same_from_keys a b k p d = (has_from_keys a b k p d, has_from_keys b a (sym k) p d)

has_in_tail :
    (e f : (ℕ × ℕ) × List Bool) (es fs : Items) → AllBehind e.0 es → f.0 ≡ e.0 → (p d : ℕ) → (HasItem (e ∷ es) p d → HasItem (f ∷ fs) p d) → HasItem es p d
    → HasItem fs p d
has_in_tail e f es fs h key p d g i = elim (first_or_rest f.0.0 f.0.1 f.1 fs p d (g (has_more e es p d i))) [
  | inl s ↦ let x : HasItem es e.0.0 e.0.1 = rw (s.0, s.1, key) at i in let y = behind_from_has es e.0 e.0.0 e.0.1 h x in absurd (not_both e.0 e.0 y y)
  | inr j ↦ j
]

keys_ascending : (a b : Items) → AreAscending a → AreAscending b → SameItems a b → HaveSameKeys a b
keys_ascending [] [] h k s = refl
keys_ascending [] (f ∷ fs) h k s = let n : HasItem [] f.0.0 f.0.1 = (s f.0.0 f.0.1).1 (has_first f fs) in cc
keys_ascending (e ∷ es) [] h k s = let n : HasItem [] e.0.0 e.0.1 = (s e.0.0 e.0.1).0 (has_first e es) in cc
keys_ascending (e ∷ es) (f ∷ fs) h k s =
    let parts = first_of_both e f es fs h.0 k.0 ((s e.0.0 e.0.1).0 (has_first e es)) ((s f.0.0 f.0.1).1 (has_first f fs)) in
    let pair : ℕ → ℕ → ℕ × ℕ = λ p d. (p, d) in
    let key : f.0 ≡ e.0 = ap (λ p. pair p f.0.1) parts.0 ∙ ap (λ d. pair e.0.0 d) parts.1 in
    let rest = keys_ascending es fs h.1 k.1 (λ p d. (has_in_tail e f es fs h.0 key p d (s p d).0, has_in_tail f e fs es k.0 (sym key) p d (s p d).1)) in
    rw key (ap (λ c. e.0 ∷ c) rest)

-- and those that come upwards have them in the same order where they have the same
pub keys_from_same : (a b : Items) → AreUpwards a → AreUpwards b → SameItems a b → HaveSameKeys a b
keys_from_same a b u w s = keys_ascending a b (ascending_from_upwards a u) (ascending_from_upwards b w) s

-- what comes upwards by the items alone
behind_from_keys : (k : ℕ × ℕ) (a b : Items) → HaveSameKeys a b → AllBehind k a → AllBehind k b
behind_from_keys k [] [] s h = tt
behind_from_keys k [] (f ∷ fs) s h = let n : [] ≡ f.0 ∷ map (λ x. x.0) fs = s in cc
behind_from_keys k (e ∷ es) [] s h = let n : e.0 ∷ map (λ x. x.0) es ≡ [] = s in cc
behind_from_keys k (e ∷ es) (f ∷ fs) s h =
    let both : e.0 ∷ map (λ x. x.0) es ≡ f.0 ∷ map (λ x. x.0) fs = s in
    let key : f.0 ≡ e.0 = cc in
    let rest : map (λ x. x.0) es ≡ map (λ x. x.0) fs = cc in
    (rw key h.0, behind_from_keys k es fs rest h.1)

ascending_from_keys : (a b : Items) → HaveSameKeys a b → AreAscending a → AreAscending b
ascending_from_keys [] [] s h = tt
ascending_from_keys [] (f ∷ fs) s h = let n : [] ≡ f.0 ∷ map (λ x. x.0) fs = s in cc
ascending_from_keys (e ∷ es) [] s h = let n : e.0 ∷ map (λ x. x.0) es ≡ [] = s in cc
ascending_from_keys (e ∷ es) (f ∷ fs) s h =
    let both : e.0 ∷ map (λ x. x.0) es ≡ f.0 ∷ map (λ x. x.0) fs = s in
    let key : f.0 ≡ e.0 = cc in
    let rest : map (λ x. x.0) es ≡ map (λ x. x.0) fs = cc in
    (rw key (behind_from_keys e.0 es fs rest h.0), ascending_from_keys es fs rest h.1)

-- lists with the same items in the same order come upwards together
pub upwards_from_keys : (a b : Items) → HaveSameKeys a b → AreUpwards a → AreUpwards b
upwards_from_keys a b s u = upwards_from_ascending b (ascending_from_keys a b s (ascending_from_upwards a u))

-- and have the same item at each place
pub same_place : (a b : Items) (k : ℕ) (e : (ℕ × ℕ) × List Bool) → HaveSameKeys a b → slice_get a k ≡ Some e → (v : List Bool) × (slice_get b k ≡ Some (e.0, v))
same_place [] b k e s h = cc
same_place (f ∷ fs) [] k e s h = let n : f.0 ∷ map (λ x. x.0) fs ≡ [] = s in cc
same_place (f ∷ fs) (g ∷ gs) zero e s h =
    let both : f.0 ∷ map (λ x. x.0) fs ≡ g.0 ∷ map (λ x. x.0) gs = s in
    let is : Some f ≡ Some e = h in
    let same : f ≡ e = cc in
    let key : e.0 ≡ g.0 = ap (λ x. x.0) (sym same) ∙ cc in
    (g.1, rw key refl)
same_place (f ∷ fs) (g ∷ gs) (suc k) e s h =
    let both : f.0 ∷ map (λ x. x.0) fs ≡ g.0 ∷ map (λ x. x.0) gs = s in
    let rest : map (λ x. x.0) fs ≡ map (λ x. x.0) gs = cc in
    same_place fs gs k e rest h

-- and are equally long
pub same_length : (a b : Items) → HaveSameKeys a b → length a ≡ length b
same_length a b s = sym (length-map a _) ∙ ap length s ∙ length-map b _

-- a walk in step goes on with the same key, and ends at another one
pub keys_turn : (P : Type 0) (e f : (ℕ × ℕ) × List Bool) (es fs : Items) → e.0 ≡ f.0 → (P ↔ HaveSameKeys (e ∷ es) (f ∷ fs)) → P ↔ HaveSameKeys es fs
keys_turn P e f es fs s h =
    (λ p. let both : e.0 ∷ map (λ x. x.0) es ≡ f.0 ∷ map (λ x. x.0) fs = h.0 p in cc, λ k. let rest : map (λ x. x.0) es ≡ map (λ x. x.0) fs = k in h.1 (rw (s, rest) refl))

pub keys_apart : (P : Type 0) (e f : (ℕ × ℕ) × List Bool) (es fs : Items) → (e.0 ≡ f.0 → ⊥) → (P ↔ HaveSameKeys (e ∷ es) (f ∷ fs)) → IsTrue false ↔ P
keys_apart P e f es fs n h =
    (λ t. cc, λ p. let both : e.0 ∷ map (λ x. x.0) es ≡ f.0 ∷ map (λ x. x.0) fs = h.0 p in let key : e.0 ≡ f.0 = cc in absurd (n key))

-- a test that says no
pub no_from : (P : Type 0) → (P → ⊥) → IsTrue false ↔ P
no_from P n = (λ h. cc, λ h. absurd (n h))
