-- a map that is made of items that come upwards has these items
use Rattle.std.proofs.Common.{◌≡◌, ℕ, Bool, ◌<◌, ◌⊎◌, List, [], ◌∷◌, Option, None, Some, length, refl, sym, ◌∙◌, arith}
use Rattle.std.specs.BTreeMap.{BTreeMap, IsFromIterResult, is_at}
use Rattle.std.specs.Cmp.{IsTotalOrder}
use Rattle.std.specs.Iterator.{Yields}
use Rattle.std.specs.List.{AllByRecursion}
use Rattle.std.specs.List.Sorted.{IsStrictlySortedBy}
use Rattle.std.specs.Map.{keys_of, lookup}
use Rattle.std.specs.Vec.Iter.{into_iter_items, into_iter_len, into_iter_steps}
use Rattle.std.specs.declared.cmp.Ordering.{Ordering}
use Rattle.std.specs.declared.cmp.Ordering.TheVariants.{Less}
use Rattle.std.specs.declared.vec.IntoIter.{IntoIter}
use Rattle.std.specs.Ordering.{nat_cmp, ordering_then, eq_by_cmp}
use Rattle.std.proofs.lemmas.Bool.Decides.{nat_tests}
use Rattle.std.proofs.lemmas.Cmp.{eq_by_cmp_equiv}
use Rattle.std.proofs.lemmas.Iterator.Adapters.{YieldsList-from_vec}
use Rattle.std.proofs.lemmas.Iterator.Consumers.{YieldsList-end}
use Rattle.std.proofs.lemmas.List.{map-id}
use Rattle.std.proofs.lemmas.Map.Keys.{IsDistinct-from_sorted}
use Rattle.std.proofs.lemmas.Map.Made.{update_all_none}
use Rattle.lrspec.specs.grammars.ItemSets.{item_at, AreUpwards}
use Rattle.lrclosing.proofs.ItemKeys.{Key, key_cmp, key_at, item_here}
use Rattle.lrclosing.proofs.AscendingItems.{AllBehind, AreAscending, ascending_from_upwards, upwards_from_sorted}
use Rattle.lritems.specs.ItemsOf.{items_of, Agree}
use Rattle.lritems.proofs.EqualItemSets.{key_total}
use Rattle.lritems.proofs.ItemsAscending.{same_from_agree}

-- what a list yields up to its end is the list
pub all_yielded :
    {A Z : Type 0} (es xs : List A) (s t u : IntoIter A Z) → into_iter_items s ≡ es → into_iter_len s ≡ length es
    → Yields into_iter_steps s xs t → into_iter_steps t None u → xs ≡ es
all_yielded es xs s t u items len yields end =
    sym (map-id xs) ∙ (YieldsList-end (YieldsList-from_vec es items len) xs t yields None u refl end).0

less_from_precedes : (a b c d : ℕ) → (a < b) ⊎ ((a ≡ b) × (c < d)) → ordering_then (nat_cmp a b) (nat_cmp c d) ≡ Less
less_from_precedes a b c d h = grind (arith, nat_tests)

module _
    {T : Type 0} (number : T → ℕ) (cmp : T → T → Ordering) (ordered : (x y : T) → cmp x y ≡ nat_cmp (number x) (number y))
    (inj : (x y : T) → number x ≡ number y → x ≡ y) (total : IsTotalOrder cmp)
  where
    less_from_behind :
        (k : Key T) (es : List (Key T × List Bool)) → AllBehind (number k.0.0, number k.1.0) (items_of number es)
        → AllByRecursion (λ j. key_cmp cmp k j ≡ Less) (keys_of es)
    less_from_behind k [] h = tt
    less_from_behind k (e ∷ es) h = (
      rw (ordered k.0.0 e.0.0.0, ordered k.1.0 e.0.1.0) (less_from_precedes (number k.0.0) (number e.0.0.0) (number k.1.0) (number e.0.1.0) h.0),
      less_from_behind k es h.1,
    )

    sorted_from_ascending : (es : List (Key T × List Bool)) → AreAscending (items_of number es) → IsStrictlySortedBy (key_cmp cmp) (keys_of es)
    unfolding IsStrictlySortedBy
    sorted_from_ascending [] h = tt
    sorted_from_ascending (e ∷ es) h = (less_from_behind e.0 es h.0, sorted_from_ascending es h.1)

    -- entries by which each key finds the same have the same items
    agree_from_keys :
        (es fs : List (Key T × List Bool)) → ((q : Key T) → lookup (is_at (key_cmp cmp q)) es ≡ lookup (is_at (key_cmp cmp q)) fs)
        → Agree (items_of number es) (items_of number fs)
    agree_from_keys es fs same p d = go (item_at (items_of number es) p d) (item_at (items_of number fs) p d) refl refl
      where
        at_key : (q : Key T) → number q.0.0 ≡ p → number q.1.0 ≡ d → item_at (items_of number es) p d ≡ item_at (items_of number fs) p d
        at_key q i j = rw (← i, ← j, ← item_here number cmp ordered es q, ← item_here number cmp ordered fs q) (same q)

        go :
            (x y : Option (List Bool)) → item_at (items_of number es) p d ≡ x → item_at (items_of number fs) p d ≡ y
            → item_at (items_of number es) p d ≡ item_at (items_of number fs) p d
        go (Some x) y h i = let q = key_at number cmp ordered es p d x h in at_key q.0 q.1 q.2
        go None (Some y) h i = let q = key_at number cmp ordered fs p d y i in at_key q.0 q.1 q.2
        go None None h i = h ∙ sym i

    pub items_of_map :
        (es : List (Key T × List Bool)) (n : BTreeMap (Key T) (List Bool)) → AreUpwards (items_of number es)
        → IsFromIterResult (key_cmp cmp) es n → items_of number n.entries ≡ items_of number es
    items_of_map es n up made =
        let ascending = ascending_from_upwards (items_of number es) up in
        let distinct = IsDistinct-from_sorted (key_cmp cmp) (keys_of es) (sorted_from_ascending es ascending) in
        let laws = eq_by_cmp_equiv (key_total number cmp ordered inj total) in
        same_from_agree (items_of number n.entries) (items_of number es)
        (ascending_from_upwards (items_of number n.entries) (upwards_from_sorted number cmp ordered n.entries made.1)) ascending
        (agree_from_keys n.entries es (λ q. made.0 q ∙ update_all_none laws (eq_by_cmp (key_cmp cmp)) (λ x y. refl) es q distinct))
