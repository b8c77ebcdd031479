-- what is added piece by piece, and images of lists
use Rattle.std.proofs.Common.{◌≡◌, ℕ, ◌+◌, ◌<◌, List, [], ◌∷◌, ◌++◌, length, map, get_or, take, drop, append_assoc, append-nil, refl, sym, ap, ◌∙◌, Result, Ok, Err}
use Rattle.std.specs.Prelude.{OnOk}
use Rattle.std.specs.List.{flat_map}
use Rattle.std.proofs.lemmas.List.{map-append, map_more, drop_more, flat_map_more}

module _ {A : Type 0} where
  -- two pieces one after the other
  pub two_pieces : (old mid new a b : List A) → mid ≡ old ++ a → new ≡ mid ++ b → new ≡ old ++ (a ++ b)
  two_pieces old mid new a b e f = f ∙ ap (λ t. t ++ b) e ∙ append_assoc old a b

  -- where the second may be refused
  pub last_of_two : {X E : Type 0} (r : Result X E) (old mid new a b : List A) → mid ≡ old ++ a → OnOk r (new ≡ mid ++ b) → OnOk r (new ≡ old ++ (a ++ b))
  last_of_two (Ok x) old mid new a b e f = two_pieces old mid new a b e f
  last_of_two (Err x) old mid new a b e f = tt

  -- nothing is added
  pub no_piece : (old : List A) → old ≡ old ++ []
  no_piece old = sym (append-nil old)

module _ {X Y : Type 0} (f : X → Y) (xs : List X) (i : ℕ) (x : X) where
  -- the images of one element more
  pub one_more : i < length xs → x ≡ get_or xs i x → map f (take (i + 1) xs) ≡ map f (take i xs) ++ f x ∷ []
  one_more l at = map_more f xs i x l ∙ ap (λ y. map f (take i xs) ++ f y ∷ []) (sym at)

  -- the image of the first of what is left
  pub first_left : i < length xs → x ≡ get_or xs i x → map f (drop i xs) ≡ f x ∷ map f (drop (i + 1) xs)
  first_left l at = ap (map f) (drop_more xs i x l) ∙ ap (λ y. f y ∷ map f (drop (i + 1) xs)) (sym at)

  -- an image is added
  pub image_added :
      (old before new : List Y) → i < length xs → x ≡ get_or xs i x → before ≡ old ++ map f (take i xs) → new ≡ before ++ f x ∷ []
      → new ≡ old ++ map f (take (i + 1) xs)
  image_added old before new l at b n =
      rw (one_more l at) (n ∙ ap (λ t. t ++ f x ∷ []) b ∙ append_assoc old (map f (take i xs)) (f x ∷ []))

  -- the piece of an image is added
  pub piece_added :
      {A : Type 0} (h : Y → List A) (old before new : List A) → i < length xs → x ≡ get_or xs i x → before ≡ old ++ flat_map h (map f (take i xs))
      → new ≡ before ++ h (f x) → new ≡ old ++ flat_map h (map f (take (i + 1) xs))
  piece_added h old before new l at b n =
      rw (one_more l at) (n ∙ ap (λ t. t ++ h (f x)) b ∙ flat_map_more h old (map f (take i xs)) (f x))

  -- the image of an image is added
  pub word_added :
      {Z : Type 0} (h : Y → Z) (old before new : List Z) → i < length xs → x ≡ get_or xs i x → before ≡ old ++ map h (map f (take i xs))
      → new ≡ before ++ h (f x) ∷ [] → new ≡ old ++ map h (map f (take (i + 1) xs))
  word_added h old before new l at b n =
      rw (one_more l at, map-append h (map f (take i xs)) (f x ∷ []))
      (n ∙ ap (λ t. t ++ h (f x) ∷ []) b ∙ append_assoc old (map h (map f (take i xs))) (h (f x) ∷ []))

-- the image of an element that is pushed
pub mapped_push : {X Y : Type 0} (f : X → Y) (old new : List X) (x : X) (y : Y) → new ≡ old ++ x ∷ [] → f x ≡ y → map f new ≡ map f old ++ y ∷ []
mapped_push f old new x y n e = rw (n, map-append f old (x ∷ []), e) refl
