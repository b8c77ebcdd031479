-- The images of the elements of a list, and where one of them is found or none.
use Rattle.std.proofs.Common.{◌≡◌, ℕ, zero, suc, ◌+◌, ◌<◌, ◌≤◌, List, [], ◌∷◌, ◌++◌, map, take, length, get_or, refl, ap, sym, ◌∙◌, subst, ⊎_elim, arith}
use Rattle.std.specs.Prelude.{Any, Contains}
use Rattle.std.proofs.lemmas.Bool.{cases_lt}
use Rattle.std.proofs.lemmas.List.{length-map, get_or-map, get_or_default, take_all}
use Rattle.lrtext.proofs.ListSteps.{mapped_push}

-- the image of an element is among the images; a loop goes over `ys`, which are `xs`
pub any_image : {X Y : Type 0} (f : X → Y) (P : Y → Type 0) (xs ys : List X) (k : ℕ) (x : X) → ys ≡ xs → k < length ys → x ≡ get_or ys k x → P (f x) → Any P (map f xs)
any_image f P xs ys k x same within is p =
    let inside : k < length xs = omega (arith, ap length same) in
    (k, f x, omega (arith, length-map xs f), get_or-map f xs k x (f x) inside ∙ ap f (sym (rw same at is)), p)

-- where no image has it at any place, none has it
no_image_at : {X Y : Type 0} (f : X → Y) (P : Y → Type 0) (xs : List X) → ((k : ℕ) (d : X) → k < length xs → P (f (get_or xs k d)) → ⊥) → Any P (map f xs) → ⊥
no_image_at f P [] never (k, y, within, is, p) = omega arith
no_image_at f P (x ∷ xs) never (zero, y, within, is, p) = never 0 x (omega arith) (subst P (sym is) p)
no_image_at f P (x ∷ xs) never (suc k, y, within, is, p) =
    no_image_at f P xs (λ j d l. never (suc j) d (omega arith)) (k, y, omega arith, is, p)

-- the same at the end of a loop over `ys`, which are `xs`, that found none
pub no_image : {X Y : Type 0} (f : X → Y) (P : Y → Type 0) (xs ys : List X) (n : ℕ) → ys ≡ xs → length ys ≤ n → ((k : ℕ) (d : X) → k < n → P (f (get_or xs k d)) → ⊥) → Any P (map f xs) → ⊥
no_image f P xs ys n same end never = no_image_at f P xs (λ k d l. never k d (omega (arith, ap length same)))

-- the same a turn later, where the image of the turn's element has it not
pub none_more : {X Y : Type 0} (f : X → Y) (P : Y → Type 0) (xs ys : List X) (n : ℕ) (x : X) → ys ≡ xs → n < length ys → x ≡ get_or ys n x → ((k : ℕ) (d : X) → k < n → P (f (get_or xs k d)) → ⊥) → (P (f x) → ⊥) → (k : ℕ) (d : X) → k < n + 1 → P (f (get_or xs k d)) → ⊥
none_more f P xs ys n x same within is before here k d l p =
    ⊎_elim (λ (b : k < n). before k d b p)
    (λ (b : n ≤ k). let e : k ≡ n = omega arith in
    let at : get_or xs k d ≡ x =
    ap (λ j. get_or xs j d) e ∙ get_or_default xs n d x (omega (arith, ap length same)) ∙ ap (λ zs. get_or zs n x) (sym same) ∙ sym is in
    here (subst (λ y. P (f y)) at p))
    (cases_lt k n)

-- an element that was read with any default
pub element_here : {X : Type 0} (ys : List X) (k : ℕ) (d y : X) → k < length ys → get_or ys k d ≡ y → y ≡ get_or ys k y
element_here ys k d y within is = sym is ∙ get_or_default ys k d y within

-- a loop over `ys`, which are `xs`, that pushes what it makes of each element: a turn, and the end
pub image_pushed : {X V M : Type 0} (g : V → M) (f : X → M) (ys xs : List X) (i : ℕ) (x : X) (old new : List V) (v : V) → ys ≡ xs → i < length ys → x ≡ get_or ys i x → map g old ≡ map f (take i xs) → new ≡ old ++ v ∷ [] → g v ≡ f x → map g new ≡ map f (take (i + 1) xs)
image_pushed g f ys xs i x old new v same within is before more here =
    mapped_push g f ys i x old new v within (before ∙ ap (λ zs. map f (take i zs)) (sym same)) more (here ∙ ap f is)
    ∙ ap (λ zs. map f (take (i + 1) zs)) same

pub images_pushed : {X V M : Type 0} (g : V → M) (f : X → M) (ys xs : List X) (i : ℕ) (all : List V) → ys ≡ xs → length ys ≤ i → map g all ≡ map f (take i xs) → map g all ≡ map f xs
images_pushed g f ys xs i all same over before = before ∙ ap (map f) (take_all i xs (subst (λ zs. length zs ≤ i) same over))

pub Contains-from_any : {X : Type 0} (xs : List X) (x : X) → Any (λ y. y ≡ x) xs → Contains xs x
Contains-from_any xs x (k, y, within, is, e) = (k, within, subst (λ z. get_or xs k z ≡ z) e is)

pub any_from_Contains : {X : Type 0} (xs : List X) (x : X) → Contains xs x → Any (λ y. y ≡ x) xs
any_from_Contains xs x (k, within, is) = (k, x, within, is, refl)

pub map-map : {X Y Z : Type 0} (f : X → Y) (g : Y → Z) (xs : List X) → map g (map f xs) ≡ map (λ x. g (f x)) xs
map-map f g [] = refl
map-map f g (x ∷ xs) = ap (λ ys. g (f x) ∷ ys) (map-map f g xs)
