-- other lookaheads for the item at a place of the code's list
use Rattle.std.proofs.Common.{◌≡◌, ◌≢◌, ℕ, ◌<◌, Bool, List, None, Some, Option, length, get_or, refl, sym, ◌∙◌}
use Rattle.std.specs.Prelude.{IsTrue, ◌↔◌, slice_get, slice_set, IsSomeAnd}
use Rattle.std.proofs.lemmas.List.{length-map, map-set}
use Rattle.std.proofs.lemmas.Option.{slice_get_within}
use Rattle.lrspec.specs.grammars.ItemSets.{Items, AreUpwards}
use Rattle.lrbits.specs.Bits.{union}
use Rattle.lritems.specs.ItemsOf.{items_of}
use Rattle.lritems.proofs.ItemsByPlace.{shown_at, set_upwards_at}
use Rattle.lrclosing.proofs.ItemKeys.{Key}

-- what is said of the item at a place is said of one that is there
some_there : {X : Type 0} (o : Option X) (P : X → Type 0) → IsSomeAnd o P → (x : X) × (o ≡ Some x)
some_there None P h = absurd h
some_there (Some x) P h = (x, refl)

-- the place is one of the code's list
pub place_below :
    {T : Type 0} (number : T → ℕ) (es : List (Key T × List Bool)) (a : Items) (k : ℕ) (ctx : List Bool) → items_of number es ≡ a
    → IsSomeAnd (slice_get a k) (λ f. length ctx ≡ length f.1) → k < length es
place_below number es a k ctx is there =
    let x = some_there (slice_get a k) (λ f. length ctx ≡ length f.1) there in
    let l : k < length a = slice_get_within a k x.0 x.1 in
    rw (← is, length-map) at l

module _
    {T : Type 0} (number : T → ℕ) (es : List (Key T × List Bool)) (a : Items) (k : ℕ) (ctx new : List Bool) (e : Key T × List Bool) (is : items_of number es ≡ a)
    (there : IsSomeAnd (slice_get a k) (λ f. length ctx ≡ length f.1)) (at : e ≡ get_or es k e)
  where
    below : k < length es
    below = place_below number es a k ctx is there

    abbrev item : (ℕ × ℕ) × List Bool
    item = ((number e.0.0.0, number e.0.1.0), e.1)

    stands : slice_get (items_of number es) k ≡ Some item
    stands = shown_at number (λ v. v) es k e below at

    same : (f : (ℕ × ℕ) × List Bool) → slice_get a k ≡ Some f → f ≡ item
    same f h = let s : Some f ≡ Some item = sym h ∙ (rw is at stands) in cc

    -- there are as many lookaheads
    pub merged_long : length ctx ≡ length e.1
    merged_long = let here : slice_get a k ≡ Some item = rw is at stands in rw here at there

    new_items : items_of number (slice_set es k (e.0, new)) ≡ slice_set (items_of number es) k (item.0, new)
    new_items = map-set (λ f. ((number f.0.0.0, number f.0.1.0), f.1)) es k (e.0, new)

    -- they come upwards
    pub merged_upwards : AreUpwards (items_of number es) → AreUpwards (items_of number (slice_set es k (e.0, new)))
    merged_upwards up = rw new_items (set_upwards_at (items_of number es) k item new stands up)

    -- the item has these
    pub merged_here :
        new ≡ union e.1 ctx → (f : (ℕ × ℕ) × List Bool) → slice_get a k ≡ Some f
        → items_of number (slice_set es k (e.0, new)) ≡ slice_set a k (f.0, union f.1 ctx)
    merged_here n f h = rw (new_items, same f h, n, is) refl

    -- which changed it or not
    pub merged_changed :
        (r : Bool) → new ≡ union e.1 ctx → (IsTrue r ↔ (new ≢ e.1)) → (f : (ℕ × ℕ) × List Bool) → slice_get a k ≡ Some f
        → IsTrue r ↔ (union f.1 ctx ≢ f.1)
    merged_changed r n c f h = rw (same f h, ← n) c
