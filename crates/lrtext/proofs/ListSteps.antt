-- a mapped list, as a loop goes along it
use Rattle.std.proofs.Common.{◌≡◌, ℕ, suc, ◌+◌, ◌<◌, ◌≤◌, List, [], ◌∷◌, ◌++◌, length, get_or, take, drop, map, sym, ap, subst, ◌∙◌, drop-cons, append_assoc, Result, Ok}
use Rattle.std.specs.Prelude.{if◌then◌else◌}
use Rattle.std.specs.Result.{is_ok}
use Rattle.std.proofs.lemmas.Grind.{take_at_read}
use Rattle.std.proofs.lemmas.List.{map-append, length-map, length-take-le, take-append-drop, take_all}

-- one more element of a list, as a loop has come to it
pub mapped_more : {X A : Type 0} (f : X → A) (xs : List X) (i : ℕ) (d : X) → i < length xs → map f (take (i + 1) xs) ≡ map f (take i xs) ++ f (get_or xs i d) ∷ []
mapped_more f xs i d h = ap (map f) ((take_at_read xs i d h).1) ∙ map-append f (take i xs) (get_or xs i d ∷ [])

-- how far a loop has come
pub mapped_length : {X A : Type 0} (f : X → A) (xs : List X) (i : ℕ) → i ≤ length xs → length (map f (take i xs)) ≡ i
mapped_length f xs i h = length-map (take i xs) f ∙ length-take-le i xs h

-- a list before, at and behind one of its elements
pub mapped_around : {X A : Type 0} (f : X → A) (xs : List X) (i : ℕ) (d : X) → i < length xs → map f xs ≡ map f (take i xs) ++ f (get_or xs i d) ∷ map f (drop (suc i) xs)
mapped_around f xs i d h = ap (map f) (sym (take-append-drop i xs) ∙ ap (λ ys. take i xs ++ ys) (drop-cons xs i d h)) ∙ map-append f (take i xs) (get_or xs i d ∷ drop (suc i) xs)

-- ---- a loop that pushes what it makes of each element, until the list is over

-- a push that succeeded
pub pushed : {T E V : Type 0} (r : Result T E) (x : T) (old new : List V) (v : V) → new ≡ if is_ok r then old ++ v ∷ [] else old → r ≡ Ok x → new ≡ old ++ v ∷ []
pushed {T = T} {E = E} r x old new v more e = more ∙ ap (λ (q : Result T E). if is_ok q then old ++ v ∷ [] else old) e

-- one more was pushed
pub mapped_push : {X V M : Type 0} (g : V → M) (f : X → M) (xs : List X) (i : ℕ) (d : X) (old new : List V) (v : V) → i < length xs → map g old ≡ map f (take i xs) → new ≡ old ++ v ∷ [] → g v ≡ f (get_or xs i d) → map g new ≡ map f (take (i + 1) xs)
mapped_push g f xs i d old new v lt before more is =
    ap (map g) more
    ∙ map-append g old (v ∷ [])
    ∙ ap (λ ms. ms ++ g v ∷ []) before
    ∙ ap (λ m. map f (take i xs) ++ m ∷ []) is
    ∙ sym (mapped_more f xs i d lt)

-- all were pushed
pub mapped_all : {X V M : Type 0} (g : V → M) (f : X → M) (xs : List X) (i : ℕ) (all : List V) → length xs ≤ i → map g all ≡ map f (take i xs) → map g all ≡ map f xs
mapped_all g f xs i all over before = before ∙ ap (map f) (take_all i xs over)

module _ {X Y V M : Type 0} (g : V → M) (h : Y → M) (f : X → Y) (xs : List X) (i : ℕ) (d : X) where
  -- the same where each element is turned into something first
  pub pushed_more : (old new : List V) (v : V) → i < length xs → map g old ≡ map h (map f (take i xs)) → new ≡ old ++ v ∷ [] → g v ≡ h (f (get_or xs i d)) → map g new ≡ map h (map f (take (i + 1) xs))
  pushed_more old new v lt before more is =
      ap (map g) more
      ∙ map-append g old (v ∷ [])
      ∙ ap (λ ms. ms ++ g v ∷ []) before
      ∙ ap (λ m. map h (map f (take i xs)) ++ m ∷ []) is
      ∙ sym (ap (map h) (mapped_more f xs i d lt) ∙ map-append h (map f (take i xs)) (f (get_or xs i d) ∷ []))

-- all were pushed, and the same
pub pushed_all : {X Y V M : Type 0} (g : V → M) (h : Y → M) (f : X → Y) (xs : List X) (i : ℕ) (all : List V) → length xs ≤ i → map g all ≡ map h (map f (take i xs)) → map g all ≡ map h (map f xs)
pushed_all g h f xs i all over before = before ∙ ap (λ ys. map h (map f ys)) (take_all i xs over)

-- one more was pushed behind what was there; the list is another's equal
pub pushed_behind : {X Y V M : Type 0} (g : V → M) (h : Y → M) (f : X → Y) (ys xs : List X) (i : ℕ) (d : X) (start : List M) (old new : List V) (v : V) → ys ≡ xs → i < length ys → map g old ≡ start ++ map h (map f (take i xs)) → new ≡ old ++ v ∷ [] → g v ≡ h (f (get_or ys i d)) → map g new ≡ start ++ map h (map f (take (i + 1) xs))
pushed_behind g h f ys xs i d start old new v same lt before more is =
    ap (map g) more
    ∙ map-append g old (v ∷ [])
    ∙ ap (λ ms. ms ++ g v ∷ []) (before ∙ ap (λ zs. start ++ map h (map f (take i zs))) (sym same))
    ∙ append_assoc start (map h (map f (take i ys))) (g v ∷ [])
    ∙ ap (λ ms. start ++ ms) (ap (λ m. map h (map f (take i ys)) ++ m ∷ []) is ∙ sym (ap (map h) (mapped_more f ys i d lt) ∙ map-append h (map f (take i ys)) (f (get_or ys i d) ∷ [])))
    ∙ ap (λ zs. start ++ map h (map f (take (i + 1) zs))) same

-- all were pushed behind what was there
pub behind_all : {X Y V M : Type 0} (g : V → M) (h : Y → M) (f : X → Y) (ys xs : List X) (i : ℕ) (start : List M) (all : List V) → ys ≡ xs → length ys ≤ i → map g all ≡ start ++ map h (map f (take i xs)) → map g all ≡ start ++ map h (map f xs)
behind_all g h f ys xs i start all same over before =
    before ∙ ap (λ zs. start ++ map h (map f zs)) (take_all i xs (subst (λ zs. length zs ≤ i) same over))
