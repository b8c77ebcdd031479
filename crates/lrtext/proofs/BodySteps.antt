-- what a loop makes of the names in bodies, as it goes along them
use Rattle.std.proofs.Common.{◌≡◌, ℕ, suc, ◌+◌, ◌<◌, List, [], ◌∷◌, ◌++◌, length, get_or, take, drop, map, Option, None, Some, refl, sym, ap, ◌∙◌, append-nil}
use Rattle.std.specs.Prelude.{filter_map, flat_map, slice_get}
use Rattle.std.proofs.lemmas.Grind.{take_at_read, flat_map-append}
use Rattle.std.proofs.lemmas.List.{take-append-drop}
use Rattle.std.proofs.lemmas.List.Elements.{filter_map-append}
use Rattle.std.proofs.Math.Seq.{drop-cons}
use Rattle.lrtext.proofs.ListSteps.{mapped_more, mapped_around}

-- only the empty list has no first element
pub empty_by_first : {A : Type 0} (xs : List A) → slice_get xs 0 ≡ None → xs ≡ []
empty_by_first [] h = refl
empty_by_first (x ∷ xs) h = cc

-- what comes first stays first with more behind it
first_stays : {A : Type 0} (xs ys : List A) (y : A) → Some y ≡ slice_get xs 0 → Some y ≡ slice_get (xs ++ ys) 0
first_stays [] ys y h = cc
first_stays (x ∷ xs) ys y h = h

-- ---- one more element, which h turns into something or nothing

module _ {X A B : Type 0} (h : A → Option B) (g : X → A) (xs : List X) (i : ℕ) (d : X) (lt : i < length xs) where
  -- what h makes of it comes last
  kept : filter_map h (map g (take (i + 1) xs)) ≡ filter_map h (map g (take i xs)) ++ filter_map h (g (get_or xs i d) ∷ [])
  kept = ap (filter_map h) (mapped_more g xs i d lt) ∙ filter_map-append h (map g (take i xs)) (g (get_or xs i d) ∷ [])

  -- something
  pub kept_more : (y : B) → Some y ≡ h (g (get_or xs i d)) → filter_map h (map g (take (i + 1) xs)) ≡ filter_map h (map g (take i xs)) ++ y ∷ []
  kept_more y e = kept ∙ rw (← e) refl

  -- nothing
  pub kept_same : None ≡ h (g (get_or xs i d)) → filter_map h (map g (take (i + 1) xs)) ≡ filter_map h (map g (take i xs))
  kept_same e = kept ∙ rw (← e) (append-nil _)

  -- the first that h turns into something
  pub first_here : (y : B) → filter_map h (map g (take i xs)) ≡ [] → Some y ≡ h (g (get_or xs i d)) → Some y ≡ slice_get (filter_map h (map g xs)) 0
  first_here y none e =
      let all = ap (filter_map h) (mapped_around g xs i d lt) ∙ filter_map-append h (map g (take i xs)) (g (get_or xs i d) ∷ map g (drop (suc i) xs)) in
      rw (all, none, ← e) refl

-- ---- one more list, from which h keeps something or nothing

module _ {X A B : Type 0} (h : A → Option B) (f : X → List A) (xs : List X) (i : ℕ) (d : X) (lt : i < length xs) where
  -- what h keeps of it comes last
  pub pieces_more : filter_map h (flat_map f (take (i + 1) xs)) ≡ filter_map h (flat_map f (take i xs)) ++ filter_map h (f (get_or xs i d))
  pieces_more =
      ap (λ ys. filter_map h (flat_map f ys)) ((take_at_read xs i d lt).1)
      ∙ ap (filter_map h) (flat_map-append f (take i xs) (get_or xs i d ∷ []) ∙ ap (λ ys. flat_map f (take i xs) ++ ys) (append-nil (f (get_or xs i d))))
      ∙ filter_map-append h (flat_map f (take i xs)) (f (get_or xs i d))

  -- the first that h keeps
  pub first_piece : (y : B) → filter_map h (flat_map f (take i xs)) ≡ [] → Some y ≡ slice_get (filter_map h (f (get_or xs i d))) 0 → Some y ≡ slice_get (filter_map h (flat_map f xs)) 0
  first_piece y none e =
      let split = ap (flat_map f) (sym (take-append-drop i xs) ∙ ap (λ ys. take i xs ++ ys) (drop-cons xs i d lt)) ∙ flat_map-append f (take i xs) (get_or xs i d ∷ drop (suc i) xs) in
      let all = ap (filter_map h) split ∙ filter_map-append h (flat_map f (take i xs)) (f (get_or xs i d) ++ flat_map f (drop (suc i) xs)) in
      rw (all, none, filter_map-append) (first_stays (filter_map h (f (get_or xs i d))) _ y e)

  -- h keeps nothing yet
  pub no_piece : filter_map h (flat_map f (take i xs)) ≡ [] → None ≡ slice_get (filter_map h (f (get_or xs i d))) 0 → filter_map h (flat_map f (take (i + 1) xs)) ≡ []
  no_piece none e = pieces_more ∙ rw (none, empty_by_first (filter_map h (f (get_or xs i d))) (sym e)) refl
