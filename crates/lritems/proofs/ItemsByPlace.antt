-- items by their places in a list
use Rattle.std.proofs.Common.{◌≡◌, ℕ, zero, suc, ◌<◌, Bool, cond, ◌&&◌, List, [], ◌∷◌, Some, map, length, get_or, refl, sym, ap, ◌∙◌, inl, inr}
use Rattle.std.specs.Prelude.{◌==◌, slice_get, slice_set, option_map}
use Rattle.std.proofs.lemmas.List.{length-map}
use Rattle.std.proofs.lemmas.Option.{slice_get-map, slice_get_read}
use Rattle.lrspec.specs.grammars.ItemSets.{Items, item_at, AreUpwards}
use Rattle.lrspec.specs.merging.WeakCompatibility.{SameItems, Apart}
use Rattle.lrspec.proofs.grammars.ListMembers.{Among}
use Rattle.lritems.specs.ItemsOf.{items_of}
use Rattle.lritems.specs.Merging.{HaveSameKeys}
use Rattle.lritems.proofs.GotoItems.{items_shown}
use Rattle.lritems.proofs.ItemsAscending.{ascending_from_upwards}
use Rattle.lritems.proofs.SameKeys.{upwards_from_keys, keys_from_same, same_length}
use Rattle.lrclosing.proofs.AscendingItems.{among_from_item, item_from_among}
use Rattle.lrclosing.proofs.ItemKeys.{Key, apart_test}

-- what is read at a place of the code's list stands there
pub shown_at :
    {T R : Type 0} (number : T → ℕ) (shows : R → List Bool) (es : List (Key T × R)) (k : ℕ) (e : Key T × R) → k < length es → e ≡ get_or es k e
    → slice_get (items_shown number shows es) k ≡ Some ((number e.0.0.0, number e.0.1.0), shows e.1)
shown_at {T} {R} number shows es k e below at =
    let shown : Key T × R → (ℕ × ℕ) × List Bool = λ f. ((number f.0.0.0, number f.0.1.0), shows f.1) in
    slice_get-map shown es k ∙ ap (λ o. option_map shown o) (slice_get_read es (length es) k e refl below at)

-- the code's lists are equally long where they come upwards and have the same items
pub equally_long :
    {T R : Type 0} (number : T → ℕ) (shows : R → List Bool) (es : List (Key T × List Bool)) (all : List (Key T × R)) (a : Items) → items_of number es ≡ a
    → AreUpwards (items_of number es) → AreUpwards (items_shown number shows all) → SameItems a (items_shown number shows all) → length es ≡ length all
equally_long number shows es all a is u w s =
    let keys = keys_from_same (items_of number es) (items_shown number shows all) u w (rw (← is) at s) in
    sym (length-map es _) ∙ same_length (items_of number es) (items_shown number shows all) keys ∙ length-map all _

among_from_place : (a : Items) (k : ℕ) (e : (ℕ × ℕ) × List Bool) → slice_get a k ≡ Some e → Among e a
among_from_place [] k e h = cc
among_from_place (f ∷ a) zero e h = let s : Some f ≡ Some e = h in let same : e ≡ f = cc in inl same
among_from_place (f ∷ a) (suc k) e h = inr (among_from_place a k e h)

place_from_among : (a : Items) (e : (ℕ × ℕ) × List Bool) → Among e a → (k : ℕ) × (slice_get a k ≡ Some e)
place_from_among [] e h = absurd h
place_from_among (f ∷ a) e (inl s) = (0, rw s refl)
place_from_among (f ∷ a) e (inr h) = let p = place_from_among a e h in (suc p.0, p.1)

-- of items that come upwards the one at a place is looked up
pub item_at_place : (a : Items) (k : ℕ) (e : (ℕ × ℕ) × List Bool) → AreUpwards a → slice_get a k ≡ Some e → item_at a e.0.0 e.0.1 ≡ Some e.1
item_at_place a k e u h = item_from_among a e (ascending_from_upwards a u) (among_from_place a k e h)

-- what is looked up stands at a place
pub place_of_item : (a : Items) (p d : ℕ) (v : List Bool) → item_at a p d ≡ Some v → (k : ℕ) × (slice_get a k ≡ Some ((p, d), v))
place_of_item a p d v h = place_from_among a ((p, d), v) (among_from_item a p d v h)

-- other lookaheads for the item at a place: the items are the same
pub set_keys : (a : Items) (k : ℕ) (e : (ℕ × ℕ) × List Bool) (v : List Bool) → slice_get a k ≡ Some e → HaveSameKeys a (slice_set a k (e.0, v))
set_keys [] k e v h = refl
set_keys (f ∷ a) zero e v h = let s : Some f ≡ Some e = h in let same : f ≡ e = cc in ap (λ g. g.0 ∷ map (λ x. x.0) a) same
set_keys (f ∷ a) (suc k) e v h = ap (λ ks. f.0 ∷ ks) (set_keys a k e v h)

-- so they come upwards
pub set_upwards_at : (a : Items) (k : ℕ) (e : (ℕ × ℕ) × List Bool) (v : List Bool) → slice_get a k ≡ Some e → AreUpwards a → AreUpwards (slice_set a k (e.0, v))
set_upwards_at a k e v h u = upwards_from_keys a (slice_set a k (e.0, v)) (set_keys a k e v h) u

get_set : (a : Items) (k : ℕ) (e f : (ℕ × ℕ) × List Bool) → slice_get a k ≡ Some e → slice_get (slice_set a k f) k ≡ Some f
get_set [] k e f h = cc
get_set (g ∷ a) zero e f h = refl
get_set (g ∷ a) (suc k) e f h = get_set a k e f h

-- it is looked up with these
pub set_here :
    (a : Items) (k p d : ℕ) (old v : List Bool) → AreUpwards a → slice_get a k ≡ Some ((p, d), old) → item_at (slice_set a k ((p, d), v)) p d ≡ Some v
set_here a k p d old v u h =
    item_at_place (slice_set a k ((p, d), v)) k ((p, d), v) (set_upwards_at a k ((p, d), old) v h u) (get_set a k ((p, d), old) ((p, d), v) h)

-- and each other item as it was
pub set_others :
    (a : Items) (k p d : ℕ) (old v : List Bool) → slice_get a k ≡ Some ((p, d), old) → (i e : ℕ) → Apart p d i e
    → item_at (slice_set a k ((p, d), v)) i e ≡ item_at a i e
set_others [] k p d old v h i e f = refl
set_others (g ∷ a) zero p d old v h i e f =
    let s : Some g ≡ Some ((p, d), old) = h in
    let same : g ≡ ((p, d), old) = cc in
    let t = apart_test i e p d (λ m n. f (sym m) (sym n)) in
    rw (same, t) refl
set_others (g ∷ a) (suc k) p d old v h i e f = ap (λ o. cond ((i == g.0.0) && (e == g.0.1)) (Some g.1) o) (set_others a k p d old v h i e f)
