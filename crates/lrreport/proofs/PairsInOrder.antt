-- lists in another order: what holds of each two, whichever comes first, still does
use Rattle.std.proofs.Common.{◌≡◌, ◌≢◌, ℕ, ◌<◌, ◌≤◌, List, length, get_or, arith, sym, ◌∙◌, inl, inr, refl}
use Rattle.std.specs.Prelude.{◌⊎◌}
use Rattle.std.proofs.lemmas.Bool.{cases_lt, cases_eq}
use Rattle.std.proofs.lemmas.List.Edits.{Swapped, swapped_from_swap, length-swap}
use Rattle.std.proofs.lemmas.List.Sorted.{IsPermutation-keeps}
use Rattle.std.specs.List.{AllPairs, swap}
use Rattle.std.specs.List.Sorted.{IsPermutation}

-- of two places that are changed, and a place, which place that was before
abbrev WasAt : ℕ → ℕ → ℕ → ℕ → Type 0
WasAt a b k place = ((k ≡ a) × (place ≡ b)) ⊎ (((k ≡ b) × (place ≡ a)) ⊎ ((k ≢ a) × (k ≢ b) × (place ≡ k)))

-- two places were two before
still_two : (a b i j p q : ℕ) → i ≢ j → WasAt a b i p → WasAt a b j q → p ≢ q
still_two a b i j p q two (inl x) (inl y) same = two (x.0 ∙ sym y.0)
still_two a b i j p q two (inl x) (inr (inl y)) same = two (x.0 ∙ sym y.1 ∙ sym same ∙ x.1 ∙ sym y.0)
still_two a b i j p q two (inl x) (inr (inr y)) same = y.1 (sym y.2 ∙ sym same ∙ x.1)
still_two a b i j p q two (inr (inl x)) (inl y) same = two (x.0 ∙ sym y.1 ∙ sym same ∙ x.1 ∙ sym y.0)
still_two a b i j p q two (inr (inl x)) (inr (inl y)) same = two (x.0 ∙ sym y.0)
still_two a b i j p q two (inr (inl x)) (inr (inr y)) same = y.0 (sym y.2 ∙ sym same ∙ x.1)
still_two a b i j p q two (inr (inr x)) (inl y) same = x.1 (sym x.2 ∙ same ∙ y.1)
still_two a b i j p q two (inr (inr x)) (inr (inl y)) same = x.0 (sym x.2 ∙ same ∙ y.1)
still_two a b i j p q two (inr (inr x)) (inr (inr y)) same = two (sym x.2 ∙ same ∙ y.2)

-- where an element stood before two changed places
record StoodAt {X : Type 0} (xs ys : List X) (a b k : ℕ) (d : X) : Type 0 where
  place : ℕ
  inside : place < length xs
  is : get_or ys k d ≡ get_or xs place d
  was : WasAt a b k place

stood_at : {X : Type 0} (xs ys : List X) (a b k : ℕ) (d : X) → a < length xs → b < length xs → k < length xs → Swapped (λ i. get_or xs i d) (λ i. get_or ys i d) a b
    → StoodAt xs ys a b k d
stood_at xs ys a b k d a_in b_in k_in s = first (cases_eq k a)
  where
    second : k ≢ a → (k ≡ b) ⊎ (k ≢ b) → StoodAt xs ys a b k d
    second differs (inl is) = record { place = a; inside = a_in; is = rw is s.1; was = inr (inl (is, refl)) }
    second differs (inr also) = record { place = k; inside = k_in; is = s.2 k differs also; was = inr (inr (differs, also, refl)) }

    first : (k ≡ a) ⊎ (k ≢ a) → StoodAt xs ys a b k d
    first (inl is) = record { place = b; inside = b_in; is = rw is s.0; was = inl (is, refl) }
    first (inr differs) = second differs (cases_eq k b)

module _ {X : Type 0} (R : X → X → Type 0) (turns : (x y : X) → R x y → R y x) where
  two : (xs : List X) → AllPairs R xs → (i j : ℕ) (d : X) → i ≢ j → i < length xs → j < length xs → R (get_or xs i d) (get_or xs j d)
  two xs all i j d apart a b = by (cases_lt i j)
    where
      by : (i < j) ⊎ (j ≤ i) → R (get_or xs i d) (get_or xs j d)
      by (inl less) = all i j d less b
      by (inr more) = let less : j < i = omega (arith, more, apart) in turns _ _ (all j i d less a)

  swapped : (xs : List X) (a b : ℕ) → a < length xs → b < length xs → AllPairs R xs → AllPairs R (swap xs a b)
  swapped xs a b a_in b_in all i j d less inside =
      let ys = swap xs a b in
      let long : length ys ≡ length xs = length-swap xs a b in
      let s = swapped_from_swap xs ys a b d a_in b_in refl in
      let one = stood_at xs ys a b i d a_in b_in (omega (arith, less, inside, long)) s in
      let other = stood_at xs ys a b j d a_in b_in (omega (arith, inside, long)) s in
      let differ : i ≢ j = λ same. omega (arith, same, less) in
      let apart = still_two a b i j one.place other.place differ one.was other.was in
      rw (one.is, other.is) (two xs all one.place other.place d apart one.inside other.inside)

  pub pairs_in_order : (xs ys : List X) → IsPermutation xs ys → AllPairs R xs → AllPairs R ys
  pairs_in_order xs ys order all = IsPermutation-keeps xs (AllPairs R) all (λ l i j a b h. swapped l i j a b h) ys order
