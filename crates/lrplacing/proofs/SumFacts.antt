-- sums and counts over a list whose terms are larger, or bounded
use Rattle.std.proofs.Common.{◌≡◌, ℕ, suc, ◌+◌, ◌*◌, ◌<◌, ◌≤◌, Bool, true, false, cond, List, [], ◌∷◌, length, Some, refl, ap, ◌∙◌, arith, inl, inr}
use Rattle.std.specs.Prelude.{sum_by, count_by, slice_get}
use Rattle.std.specs.List.{range_with_len}
use Rattle.std.proofs.lemmas.List.Sums.{sum_by-cons, sum_by-le-sum_by}
use Rattle.lrspec.proofs.grammars.ListMembers.{Among}

-- where each term is at most `m`, the sum is at most as many times `m`
pub sum_most : {X : Type 0} (f : X → ℕ) (m : ℕ) (xs : List X) → ((x : X) → f x ≤ m) → sum_by f xs ≤ length xs * m
sum_most f m [] h = omega arith
sum_most f m (x ∷ xs) h = omega (arith, sum_by-cons f x xs, h x, sum_most f m xs h)

-- a sum of terms of which none is smaller and one is larger is larger
pub sum_larger :
    {X : Type 0} (f h : X → ℕ) (x : X) (xs : List X) → Among x xs → ((y : X) → f y ≤ h y) → f x < h x → sum_by f xs < sum_by h xs
sum_larger f h x [] i l lt = absurd i
sum_larger f h x (y ∷ ys) (inl e) l lt =
    let here : f y < h y = rw e at lt in
    omega (arith, sum_by-cons f y ys, sum_by-cons h y ys, here, sum_by-le-sum_by f h ys l)
sum_larger f h x (y ∷ ys) (inr i) l lt = omega (arith, sum_by-cons f y ys, sum_by-cons h y ys, l y, sum_larger f h x ys i l lt)

one_le : (a b : Bool) → (a ≡ true → b ≡ true) → cond a 1 0 ≤ cond b 1 0
one_le true b h = rw (h refl) (omega arith)
one_le false b h = omega arith

-- where a test passes whatever another passes, it counts no fewer
pub count_le : {X : Type 0} (p q : X → Bool) (xs : List X) → ((x : X) → p x ≡ true → q x ≡ true) → count_by p xs ≤ count_by q xs
count_le p q xs h = sum_by-le-sum_by (λ x. cond (p x) 1 0) (λ x. cond (q x) 1 0) xs (λ x. one_le (p x) (q x) (h x))

-- and more, where it passes one more
pub count_more :
    {X : Type 0} (p q : X → Bool) (x : X) (xs : List X) → Among x xs → ((y : X) → p y ≡ true → q y ≡ true) → p x ≡ false → q x ≡ true
    → count_by p xs < count_by q xs
count_more p q x xs i h fails passes =
    sum_larger (λ y. cond (p y) 1 0) (λ y. cond (q y) 1 0) x xs i (λ y. one_le (p y) (q y) (h y)) (rw (fails, passes) (omega arith))

-- a sum over the places of a list is the sum over its elements
pub sum_by_places :
    {X : Type 0} (f : X → ℕ) (h : ℕ → ℕ) (a : ℕ) (xs : List X) → ((k : ℕ) (x : X) → slice_get xs k ≡ Some x → h (a + k) ≡ f x)
    → sum_by h (range_with_len a (length xs)) ≡ sum_by f xs
sum_by_places f h a [] e = refl
sum_by_places f h a (x ∷ xs) e =
    let here : h a ≡ f x = ap h (omega arith) ∙ e 0 x refl in
    let later : sum_by h (range_with_len (a + 1) (length xs)) ≡ sum_by f xs = sum_by_places f h (a + 1) xs (λ k y i. ap h (omega arith) ∙ e (suc k) y i) in
    omega (arith, sum_by-cons h a (range_with_len (a + 1) (length xs)), sum_by-cons f x xs, here, later)
