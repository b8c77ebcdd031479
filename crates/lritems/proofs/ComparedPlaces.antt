-- what is read at a place of the code's lists, where both have the same items
use Rattle.std.proofs.Common.{◌≡◌, ℕ, ◌<◌, Bool, List, Some, length, get_or, sym, ap, ◌∙◌}
use Rattle.std.specs.Prelude.{slice_get}
use Rattle.std.proofs.lemmas.List.{length-map}
use Rattle.std.proofs.lemmas.Option.{same_Some}
use Rattle.lrspec.specs.grammars.ItemSets.{Items, item_at, AreUpwards}
use Rattle.lritems.specs.ItemsOf.{items_of}
use Rattle.lritems.specs.Merging.{HaveSameKeys}
use Rattle.lritems.proofs.GotoItems.{items_shown}
use Rattle.lritems.proofs.ItemsByPlace.{shown_at, item_at_place}
use Rattle.lritems.proofs.SameKeys.{same_place, same_length}
use Rattle.lrclosing.proofs.ItemKeys.{Key}

-- two lists with the same items upwards, of which the first is seen as `a`
pub record AreCompared
    {T R : Type 0} (number : T → ℕ) (shows : R → List Bool) (es : List (Key T × List Bool)) (all : List (Key T × R)) (a : Items) : Type 0 where
  pub is : items_of number es ≡ a
  pub upwards : AreUpwards (items_of number es)
  pub other_upwards : AreUpwards (items_shown number shows all)
  pub keys : HaveSameKeys a (items_shown number shows all)

module _
    {T R : Type 0} {number : T → ℕ} {shows : R → List Bool} {es : List (Key T × List Bool)} {all : List (Key T × R)} {a : Items} (both : AreCompared number shows es all a)
  where
    pub items_long : length es ≡ length a
    items_long = sym (length-map es _) ∙ ap length both.is

    pub others_long : length all ≡ length a
    others_long = sym (same_length a (items_shown number shows all) both.keys ∙ length-map all _)

    -- the item of the one
    module _ (k : ℕ) (e : Key T × List Bool) (below : k < length a) (at : e ≡ get_or es k e) where
      pub stands : slice_get a k ≡ Some ((number e.0.0.0, number e.0.1.0), e.1)
      stands = rw both.is at (shown_at number (λ v. v) es k e (rw (← items_long) at below) at)

      pub found : item_at a (number e.0.0.0) (number e.0.1.0) ≡ Some e.1
      found = item_at_place a k ((number e.0.0.0, number e.0.1.0), e.1) (rw both.is at both.upwards) stands

      -- and of the other
      pub other_found : (f : Key T × R) → f ≡ get_or all k f → item_at (items_shown number shows all) (number e.0.0.0) (number e.0.1.0) ≡ Some (shows f.1)
      other_found f there =
          let b : Items = items_shown number shows all in
          let mine = same_place a b k ((number e.0.0.0, number e.0.1.0), e.1) both.keys stands in
          let its = shown_at number shows all k f (rw (← others_long) at below) there in
          let same = same_Some ((number e.0.0.0, number e.0.1.0), mine.0) ((number f.0.0.0, number f.0.1.0), shows f.1) (sym mine.1 ∙ its) in
          let bits : mine.0 ≡ shows f.1 = ap (λ x. x.1) same in
          rw bits at (item_at_place b k ((number e.0.0.0, number e.0.1.0), mine.0) both.other_upwards mine.1)

-- two items of the one are read
pub record AreRead {T : Type 0} (number : T → ℕ) (a : Items) (i j : ℕ) (e f : Key T × List Bool) : Type 0 where
  pub here : slice_get a i ≡ Some ((number e.0.0.0, number e.0.1.0), e.1)
  pub there : slice_get a j ≡ Some ((number f.0.0.0, number f.0.1.0), f.1)
  pub mine : item_at a (number e.0.0.0) (number e.0.1.0) ≡ Some e.1
  pub later : item_at a (number f.0.0.0) (number f.0.1.0) ≡ Some f.1

-- and the same of the other
pub record AreOthers {T : Type 0} (number : T → ℕ) (b : Items) (j k : Key T) (v w : List Bool) : Type 0 where
  pub its : item_at b (number j.0.0) (number j.1.0) ≡ Some v
  pub later : item_at b (number k.0.0) (number k.1.0) ≡ Some w

module _
    {T R : Type 0} {number : T → ℕ} {shows : R → List Bool} {es : List (Key T × List Bool)} {all : List (Key T × R)} {a : Items} (both : AreCompared number shows es all a)
    (i j : ℕ) (e f : Key T × List Bool) (l : i < length a) (m : j < length a) (at : e ≡ get_or es i e) (next : f ≡ get_or es j f)
  where
    pub are_read : AreRead number a i j e f
    are_read = record { here = stands both i e l at; there = stands both j f m next; mine = found both i e l at; later = found both j f m next }

    pub are_others : (x y : Key T × R) → x ≡ get_or all i x → y ≡ get_or all j y → AreOthers number (items_shown number shows all) e.0 f.0 (shows x.1) (shows y.1)
    are_others x y at_x at_y = record { its = other_found both i e l at x at_x; later = other_found both j f m next y at_y }
