-- elements of lists, one place after the other
use Rattle.std.proofs.Common.{◌≡◌, ℕ, zero, suc, ◌+◌, ◌<◌, ◌≤◌, Bool, true, false, cond, ◌||◌, eqb, List, [], ◌∷◌, ◌++◌, refl, sym, ap, Option, None, Some, ◌⊎◌, inl, inr, arith}
use Rattle.std.specs.Prelude.{Contains, filter, ◌==◌}
use Rattle.std.specs.List.{flat_map, filter_map, cons_option, list_any, range_with_len}
use Rattle.std.proofs.lemmas.Bool.{cases_eq, or_cases, eqb-true, eq-eqb}

-- `x` is one of the list
abbrev pub Among : {X : Type 0} → X → List X → Type 0
Among x [] = ⊥
Among x (y ∷ ys) = (x ≡ y) ⊎ Among x ys

module _ {X : Type 0} where
  -- an element at some place is one of the list
  pub among_from_contains : (x : X) (xs : List X) → Contains xs x → Among x xs
  among_from_contains x [] (k, l, e) = absurd (omega (arith, l))
  among_from_contains x (y ∷ ys) (zero, l, e) = inl (sym e)
  among_from_contains x (y ∷ ys) (suc k, l, e) = inr (among_from_contains x ys (k, omega (arith, l), e))

  -- and one of the list is at some place
  pub contains_from_among : (x : X) (xs : List X) → Among x xs → Contains xs x
  contains_from_among x [] h = absurd h
  contains_from_among x (y ∷ ys) (inl e) = (0, omega arith, sym e)
  contains_from_among x (y ∷ ys) (inr h) =
      let (k, l, e) = contains_from_among x ys h in (suc k, omega (arith, l), e)

  -- a list of one element contains it
  pub contains_one : (x : X) → Contains (x ∷ []) x
  contains_one x = (0, omega arith, refl)

  -- and no other
  pub only_one : (x y : X) → Contains (x ∷ []) y → y ≡ x
  only_one x y h = elim (among_from_contains y (x ∷ []) h) [ inl e ↦ e | inr f ↦ absurd f ]

  -- what is among a list is among what begins with it
  pub among_front : (x : X) (xs ys : List X) → Among x xs → Among x (xs ++ ys)
  among_front x [] ys h = absurd h
  among_front x (z ∷ xs) ys (inl e) = inl e
  among_front x (z ∷ xs) ys (inr h) = inr (among_front x xs ys h)

  -- and among what ends with it
  pub among_back : (x : X) (xs ys : List X) → Among x ys → Among x (xs ++ ys)
  among_back x [] ys h = h
  among_back x (z ∷ xs) ys h = inr (among_back x xs ys h)

  -- what is among two lists is among one of them
  pub among_append : (x : X) (xs ys : List X) → Among x (xs ++ ys) → Among x xs ⊎ Among x ys
  among_append x [] ys h = inr h
  among_append x (z ∷ xs) ys (inl e) = inl (inl e)
  among_append x (z ∷ xs) ys (inr h) = elim (among_append x xs ys h) [ inl k ↦ inl (inr k) | inr k ↦ inr k ]

  -- a list without an element is empty
  pub nothing_among : (xs : List X) → ((x : X) → Among x xs → ⊥) → xs ≡ []
  nothing_among [] n = refl
  nothing_among (x ∷ xs) n = absurd (n x (inl refl))

  -- an empty list has no element
  pub empty_among : (x : X) (xs : List X) → Among x xs → xs ≡ [] → ⊥
  empty_among x [] h e = h
  empty_among x (y ∷ ys) h e = cc

  among_cons : (o : Option X) (x : X) (xs : List X) → o ≡ Some x → Among x (cons_option o xs)
  among_cons None x xs e = absurd cc
  among_cons (Some z) x xs e = inl cc

  among_later : (o : Option X) (x : X) (xs : List X) → Among x xs → Among x (cons_option o xs)
  among_later None x xs h = h
  among_later (Some z) x xs h = inr h

  from_cons : (o : Option X) (x : X) (xs : List X) → Among x (cons_option o xs) → (o ≡ Some x) ⊎ Among x xs
  from_cons None x xs h = inr h
  from_cons (Some z) x xs (inl e) = inl (ap Some (sym e))
  from_cons (Some z) x xs (inr h) = inr h

module _ {X Y : Type 0} where
  -- what one element gives is in a `flat_map`
  pub among_flat_map : (f : X → List Y) (y : Y) (x : X) (xs : List X) → Among x xs → Among y (f x) → Among y (flat_map f xs)
  among_flat_map f y x [] h k = absurd h
  among_flat_map f y x (z ∷ zs) (inl e) k = among_front y (f z) (flat_map f zs) (rw e at k)
  among_flat_map f y x (z ∷ zs) (inr h) k = among_back y (f z) (flat_map f zs) (among_flat_map f y x zs h k)

  -- an element of a `flat_map` comes from one of the list
  pub from_flat_map : (f : X → List Y) (y : Y) (xs : List X) → Among y (flat_map f xs) → (x : X) × Among x xs × Among y (f x)
  from_flat_map f y [] h = absurd h
  from_flat_map f y (z ∷ zs) h =
      elim (among_append y (f z) (flat_map f zs) h) [
        | inl i ↦ (z, inl refl, i)
        | inr i ↦ let (x, j, k) = from_flat_map f y zs i in (x, inr j, k)
      ]

  -- what one element gives is in a `filter_map`
  pub among_filter_map : (f : X → Option Y) (y : Y) (x : X) (xs : List X) → Among x xs → f x ≡ Some y → Among y (filter_map f xs)
  among_filter_map f y x [] h e = absurd h
  among_filter_map f y x (z ∷ zs) (inl i) e = among_cons (f z) y (filter_map f zs) (rw i at e)
  among_filter_map f y x (z ∷ zs) (inr h) e = among_later (f z) y (filter_map f zs) (among_filter_map f y x zs h e)

  -- an element of a `filter_map` comes from one of the list
  pub from_filter_map : (f : X → Option Y) (y : Y) (xs : List X) → Among y (filter_map f xs) → (x : X) × Among x xs × (f x ≡ Some y)
  from_filter_map f y [] h = absurd h
  from_filter_map f y (z ∷ zs) h =
      elim (from_cons (f z) y (filter_map f zs) h) [
        | inl e ↦ (z, inl refl, e)
        | inr i ↦ let (x, j, k) = from_filter_map f y zs i in (x, inr j, k)
      ]

among_range : (a n x : ℕ) → a ≤ x → x < a + n → Among x (range_with_len a n)
among_range a zero x l h = absurd (omega arith)
among_range a (suc n) x l h = elim (cases_eq x a) [ inl e ↦ inl e | inr k ↦ inr (among_range (a + 1) n x (omega arith) (omega arith)) ]

from_range : (a n x : ℕ) → Among x (range_with_len a n) → (a ≤ x) × (x < a + n)
from_range a zero x h = absurd h
from_range a (suc n) x (inl e) = (omega arith, omega arith)
from_range a (suc n) x (inr h) = let (l, m) = from_range (a + 1) n x h in (omega arith, omega arith)

-- the range from 0 on has each number below its end
pub among_below : (n x : ℕ) → x < n → Among x (range_with_len 0 n)
among_below n x h = among_range 0 n x (omega arith) (omega (arith, h))

-- and no other
pub below_from_range : (n x : ℕ) → Among x (range_with_len 0 n) → x < n
below_from_range n x h = omega (arith, (from_range 0 n x h).1)

filter_cond : (b : Bool) (x y : ℕ) (ys : List ℕ) → Among x (cond b (y ∷ ys) ys) → (x ≡ y) ⊎ Among x ys
filter_cond true x y ys h = h
filter_cond false x y ys h = inr h

-- what a filter keeps is one of the list
pub from_filter : (f : ℕ → Bool) (x : ℕ) (xs : List ℕ) → Among x (filter f xs) → Among x xs
from_filter f x [] h = absurd h
from_filter f x (y ∷ ys) h = elim (filter_cond (f y) x y (filter f ys) h) [ inl e ↦ inl e | inr i ↦ inr (from_filter f x ys i) ]

kept_later : (b : Bool) (x y : ℕ) (ys : List ℕ) → Among x ys → Among x (cond b (y ∷ ys) ys)
kept_later true x y ys h = inr h
kept_later false x y ys h = h

-- what passes the test is kept by a filter
pub among_filter : (f : ℕ → Bool) (x : ℕ) (xs : List ℕ) → Among x xs → f x ≡ true → Among x (filter f xs)
among_filter f x [] h p = absurd h
among_filter f x (y ∷ ys) (inl e) p = let q : f y ≡ true = rw e at p in rw q (inl e)
among_filter f x (y ∷ ys) (inr h) p = kept_later (f y) x y (filter f ys) (among_filter f x ys h p)

first_cond : (b : Bool) (a p : ℕ) (ys ps : List ℕ) → cond b (a ∷ ys) ys ≡ p ∷ ps → ((p ≡ a) × (ps ≡ ys)) ⊎ (ys ≡ p ∷ ps)
first_cond true a p ys ps e = inl (cc, cc)
first_cond false a p ys ps e = inr e

-- what a filter keeps of a range goes upwards
pub least_first : (f : ℕ → Bool) (a n p q : ℕ) (ps : List ℕ) → filter f (range_with_len a n) ≡ p ∷ ps → Among q ps → p < q
least_first f a zero p q ps e h = absurd cc
least_first f a (suc n) p q ps e h =
    elim (first_cond (f a) a p (filter f (range_with_len (a + 1) n)) ps e) [
      | inl (i, j) ↦ let m = from_range (a + 1) n q (from_filter f q (range_with_len (a + 1) n) (rw j at h)) in omega (arith, m.0, i)
      | inr i ↦ least_first f (a + 1) n p q ps i h
    ]

-- the test for an element
pub among_from_test : (q : ℕ) (ps : List ℕ) → list_any (λ r. r == q) ps ≡ true → Among q ps
among_from_test q [] e = cc
among_from_test q (p ∷ ps) e =
    elim (or_cases (eqb p q) (list_any (λ r. r == q) ps) e) [
      | inl i ↦ inl (sym (eqb-true p q i))
      | inr i ↦ inr (among_from_test q ps i)
    ]

or_true : (b : Bool) → (b || true) ≡ true
or_true true = refl
or_true false = refl

pub test_from_among : (q : ℕ) (ps : List ℕ) → Among q ps → list_any (λ r. r == q) ps ≡ true
test_from_among q [] h = absurd h
test_from_among q (p ∷ ps) (inl e) = rw (eq-eqb p q (sym e)) refl
test_from_among q (p ∷ ps) (inr h) = rw (test_from_among q ps h) (or_true (eqb p q))
