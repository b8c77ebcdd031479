-- items that come upwards, one behind another
use Rattle.std.proofs.Common.{Ordering, Less, ◌≡◌, ℕ, zero, suc, ◌<◌, Bool, true, false, cond, ◌&&◌, List, [], ◌∷◌, ◌++◌, Some, length, map, get_or, refl, ◌∙◌, arith, ◌⊎◌, inl, inr}
use Rattle.std.specs.Prelude.{◌==◌}
use Rattle.std.specs.List.Sorted.{IsStrictlySortedBy}
use Rattle.std.specs.Map.{keys_of}
use Rattle.std.specs.Ordering.{nat_cmp, ordering_then}
use Rattle.std.proofs.lemmas.Bool.Decides.{nat_tests}
use Rattle.std.proofs.lemmas.List.{length-map, get_or-map}
use Rattle.std.proofs.lemmas.Map.Keys.{Less-from_sorted}
use Rattle.lrspec.specs.grammars.ItemSets.{Items, item_at, Precedes, AreUpwards}
use Rattle.lrspec.specs.merging.WeakCompatibility.{Apart}
use Rattle.lrspec.proofs.grammars.ListMembers.{Among}
use Rattle.lrclosing.specs.ItemsOf.{items_of}
use Rattle.lrclosing.proofs.ItemKeys.{Key, key_cmp, eq_parts, apart_test}

-- each item of the list comes behind `k`
abbrev pub AllBehind : ℕ × ℕ → Items → Type 0
AllBehind k [] = Unit {0}
AllBehind k (e ∷ es) = Precedes k e.0 × AllBehind k es

-- each comes behind those that stand before it
abbrev pub AreAscending : Items → Type 0
AreAscending [] = Unit {0}
AreAscending (e ∷ es) = AllBehind e.0 es × AreAscending es

behind_from : (k : ℕ × ℕ) (a : Items) → ((j : ℕ) (d : (ℕ × ℕ) × List Bool) → j < length a → Precedes k (get_or a j d).0) → AllBehind k a
behind_from k [] f = tt
behind_from k (e ∷ es) f = (f 0 e (omega arith), behind_from k es (λ j d l. f (suc j) d (omega arith)))

behind_at : (a : Items) (k : ℕ × ℕ) → AllBehind k a → (j : ℕ) (d : (ℕ × ℕ) × List Bool) → j < length a → Precedes k (get_or a j d).0
behind_at [] k h j d l = absurd (omega arith)
behind_at (e ∷ es) k h zero d l = h.0
behind_at (e ∷ es) k h (suc j) d l = behind_at es k h.1 j d (omega arith)

-- that is what it is to come upwards
pub ascending_from_upwards : (a : Items) → AreUpwards a → AreAscending a
ascending_from_upwards [] u = tt
ascending_from_upwards (e ∷ es) u = (
  behind_from e.0 es (λ j d l. u 0 (suc j) d (omega arith) (omega arith)),
  ascending_from_upwards es (λ i j d l m. u (suc i) (suc j) d (omega arith) (omega arith)),
)

pub upwards_from_ascending : (a : Items) → AreAscending a → AreUpwards a
upwards_from_ascending [] h i j d l m = absurd (omega arith)
upwards_from_ascending (e ∷ es) h zero zero d l m = absurd (omega arith)
upwards_from_ascending (e ∷ es) h zero (suc j) d l m = behind_at es e.0 h.0 j d (omega arith)
upwards_from_ascending (e ∷ es) h (suc i) zero d l m = absurd (omega arith)
upwards_from_ascending (e ∷ es) h (suc i) (suc j) d l m = upwards_from_ascending es h.1 i j d (omega arith) (omega arith)

precedes_then : (j k l : ℕ × ℕ) → Precedes j k → Precedes k l → Precedes j l
precedes_then j k l (inl h) (inl i) = inl (omega (arith, h, i))
precedes_then j k l (inl h) (inr i) = inl (omega (arith, h, i))
precedes_then j k l (inr h) (inl i) = inl (omega (arith, h, i))
precedes_then j k l (inr h) (inr i) = inr (h.0 ∙ i.0, omega (arith, h.1, i.1))

pub apart_before : (j k : ℕ × ℕ) → Precedes j k → Apart k.0 k.1 j.0 j.1
apart_before j k (inl h) s t = omega (arith, h, s)
apart_before j k (inr h) s t = omega (arith, h, t)

-- what is before an item is before those behind it
pub behind_then : (a : Items) (j k : ℕ × ℕ) → Precedes j k → AllBehind k a → AllBehind j a
behind_then [] j k h b = tt
behind_then (e ∷ es) j k h b = (precedes_then j k e.0 h b.0, behind_then es j k h b.1)

pub behind_among : (a : Items) (k : ℕ × ℕ) (x : (ℕ × ℕ) × List Bool) → AllBehind k a → Among x a → Precedes k x.0
behind_among [] k x h i = absurd i
behind_among (e ∷ es) k x h (inl s) = rw s h.0
behind_among (e ∷ es) k x h (inr i) = behind_among es k x h.1 i

pub behind_from_among : (a : Items) (k : ℕ × ℕ) → ((x : (ℕ × ℕ) × List Bool) → Among x a → Precedes k x.0) → AllBehind k a
behind_from_among [] k f = tt
behind_from_among (e ∷ es) k f = (f e (inl refl), behind_from_among es k (λ x i. f x (inr i)))

-- some items behind others
pub behind_append : (a b : Items) (k : ℕ × ℕ) → AllBehind k a → AllBehind k b → AllBehind k (a ++ b)
behind_append [] b k h i = i
behind_append (e ∷ es) b k h i = (h.0, behind_append es b k h.1 i)

pub ascending_append :
    (a b : Items) → AreAscending a → AreAscending b → ((x : (ℕ × ℕ) × List Bool) → Among x a → AllBehind x.0 b) → AreAscending (a ++ b)
ascending_append [] b h i f = i
ascending_append (e ∷ es) b h i f = (behind_append es b e.0 h.0 (f e (inl refl)), ascending_append es b h.1 i (λ x j. f x (inr j)))

pub test_itself : (p d : ℕ) → ((p == p) && (d == d)) ≡ true
test_itself p d = grind (arith, nat_tests)

pub first_here : (e : (ℕ × ℕ) × List Bool) (es : Items) → item_at (e ∷ es) e.0.0 e.0.1 ≡ Some e.1
first_here e es = rw (test_itself e.0.0 e.0.1) refl

-- of items that come upwards each is looked up
pub item_from_among : (a : Items) (x : (ℕ × ℕ) × List Bool) → AreAscending a → Among x a → item_at a x.0.0 x.0.1 ≡ Some x.1
item_from_among [] x h i = absurd i
item_from_among (e ∷ es) x h (inl s) = rw s (first_here e es)
item_from_among (e ∷ es) x h (inr i) =
    rw (apart_test x.0.0 x.0.1 e.0.0 e.0.1 (apart_before e.0 x.0 (behind_among es e.0 x h.0 i))) (item_from_among es x h.1 i)

-- what is looked up is in the list
pub among_from_item : (a : Items) (p d : ℕ) (v : List Bool) → item_at a p d ≡ Some v → Among ((p, d), v) a
among_from_item [] p d v h = cc
among_from_item (e ∷ es) p d v h = go ((p == e.0.0) && (d == e.0.1)) refl (among_from_item es p d v) h
  where
    go :
        (b : Bool) → ((p == e.0.0) && (d == e.0.1)) ≡ b → (item_at es p d ≡ Some v → Among ((p, d), v) es) → cond b (Some e.1) (item_at es p d) ≡ Some v
        → Among ((p, d), v) (e ∷ es)
    go true t r k =
        let f = eq_parts p e.0.0 d e.0.1 t in
        let s : e.1 ≡ v = cc in
        inl (rw (← f.0, ← f.1, ← s) refl)
    go false t r k = inr (r k)

precedes_from_less : (a b c d : ℕ) → ordering_then (nat_cmp a b) (nat_cmp c d) ≡ Less → (a < b) ⊎ ((a ≡ b) × (c < d))
precedes_from_less a b c d h = grind (arith, nat_tests)

-- the items of a map come upwards, since its keys do
pub upwards_from_sorted :
    {T : Type 0} (number : T → ℕ) (cmp : T → T → Ordering) (ordered : (x y : T) → cmp x y ≡ nat_cmp (number x) (number y)) (es : List (Key T × List Bool))
    → IsStrictlySortedBy (key_cmp cmp) (keys_of es) → AreUpwards (items_of number es)
upwards_from_sorted number cmp ordered [] sorted i j d l m = absurd (omega arith)
upwards_from_sorted {T} number cmp ordered (e ∷ es) sorted i j d l m =
    let key : Key T × List Bool → Key T = λ f. f.0 in
    let shown : Key T × List Bool → (ℕ × ℕ) × List Bool = λ f. ((number f.0.0.0, number f.0.1.0), f.1) in
    let n : j < length (e ∷ es) = rw length-map at m in
    let o : i < length (e ∷ es) = omega (arith, l, n) in
    let less = Less-from_sorted (key_cmp cmp) (map key (e ∷ es)) i j e.0 sorted l (rw length-map n) in
    let keys = rw (get_or-map key (e ∷ es) i e e.0 o, get_or-map key (e ∷ es) j e e.0 n) at less in
    let a = (get_or (e ∷ es) i e).0 in
    let b = (get_or (e ∷ es) j e).0 in
    let numbers : ordering_then (nat_cmp (number a.0.0) (number b.0.0)) (nat_cmp (number a.1.0) (number b.1.0)) ≡ Less = rw (← ordered a.0.0 b.0.0, ← ordered a.1.0 b.1.0) keys in
    rw (get_or-map shown (e ∷ es) i e d o, get_or-map shown (e ∷ es) j e d n) (precedes_from_less (number a.0.0) (number b.0.0) (number a.1.0) (number b.1.0) numbers)
