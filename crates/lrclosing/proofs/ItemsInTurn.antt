-- items of a list that come upwards, one place after another
use Rattle.std.proofs.Common.{◌≡◌, ℕ, zero, suc, ◌+◌, ◌<◌, ◌≤◌, Bool, List, [], ◌∷◌, Some, length, get_or, drop, add-one, drop-cons, refl, arith, inl, inr}
use Rattle.std.proofs.lemmas.List.{drop_all}
use Rattle.lrspec.specs.grammars.ItemSets.{item_at, AreUpwards}
use Rattle.lrspec.proofs.grammars.ListMembers.{Among}
use Rattle.lrclosing.specs.ItemsOf.{items_of}
use Rattle.lrclosing.proofs.ItemKeys.{Key}
use Rattle.lrclosing.proofs.AscendingItems.{AllBehind, AreAscending, ascending_from_upwards, item_from_among}

module _ {T : Type 0} (number : T → ℕ) where
  -- the items from a place on are the one at that place and those behind it
  pub left_here :
      (es : List (Key T × List Bool)) (i : ℕ) (e d : Key T × List Bool) → i < length es → e ≡ get_or es i d
      → items_of number (drop i es) ≡ ((number e.0.0.0, number e.0.1.0), e.1) ∷ items_of number (drop (i + 1) es)
  left_here es i e d l s = rw (add-one, drop-cons es i d l, ← s) refl

  pub none_left : (es : List (Key T × List Bool)) (i : ℕ) → length es ≤ i → items_of number (drop i es) ≡ []
  none_left es i l = rw (drop_all i es l) refl

  place_among :
      (es : List (Key T × List Bool)) (i : ℕ) (e d : Key T × List Bool) → i < length es → e ≡ get_or es i d
      → Among ((number e.0.0.0, number e.0.1.0), e.1) (items_of number es)
  place_among [] i e d l s = absurd (omega arith)
  place_among (x ∷ es) zero e d l s = inl (rw s refl)
  place_among (x ∷ es) (suc i) e d l s = inr (place_among es i e d (omega arith) s)

  -- the item at a place is the one that is looked up
  pub item_in_turn :
      (es : List (Key T × List Bool)) (i : ℕ) (e d : Key T × List Bool) → AreUpwards (items_of number es) → i < length es → e ≡ get_or es i d
      → item_at (items_of number es) (number e.0.0.0) (number e.0.1.0) ≡ Some e.1
  item_in_turn es i e d u l s =
      item_from_among (items_of number es) ((number e.0.0.0, number e.0.1.0), e.1) (ascending_from_upwards (items_of number es) u) (place_among es i e d l s)

  ascending_left : (es : List (Key T × List Bool)) (i : ℕ) → AreAscending (items_of number es) → AreAscending (items_of number (drop i es))
  ascending_left [] zero h = h
  ascending_left [] (suc i) h = h
  ascending_left (x ∷ es) zero h = h
  ascending_left (x ∷ es) (suc i) h = ascending_left es i h.1

  -- those behind it come behind it
  pub behind_in_turn :
      (es : List (Key T × List Bool)) (i : ℕ) (e d : Key T × List Bool) → AreUpwards (items_of number es) → i < length es → e ≡ get_or es i d
      → AllBehind (number e.0.0.0, number e.0.1.0) (items_of number (drop (i + 1) es))
  behind_in_turn es i e d u l s =
      let a = ascending_left es i (ascending_from_upwards (items_of number es) u) in
      let b = rw (left_here es i e d l s) at a in
      b.0
