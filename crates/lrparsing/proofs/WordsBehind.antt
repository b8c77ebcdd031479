-- words behind those of a name
use Rattle.std.proofs.Common.{◌≡◌, ℕ, suc, ◌+◌, ◌<◌, true, false, List, ◌∷◌, length, map, get_or, drop, None, refl, sym, ap, ◌∙◌, add-one, bytes_eq}
use Rattle.std.proofs.lemmas.List.{drop-map}
use Rattle.std.proofs.Math.Seq.{drop-cons}
use Rattle.lrparsing.specs.Lines.{behind}

module _ {A : Type 0} (f : A → List ℕ) (xs : List A) (i : ℕ) (x : A) (inside : i < length xs) (is : x ≡ get_or xs i x) where
  -- the word at a place
  pub here : drop i (map f xs) ≡ f x ∷ drop (i + 1) (map f xs)
  here =
      let left : drop i xs ≡ x ∷ drop (i + 1) xs =
      drop-cons xs i x inside ∙ ap (λ y. y ∷ drop (suc i) xs) (sym is) ∙ ap (λ k. x ∷ drop k xs) (sym (add-one i)) in
      drop-map f i xs ∙ ap (map f) left ∙ ap (λ l. f x ∷ l) (sym (drop-map f (i + 1) xs))

  -- it is that of the name
  pub stands : (v : List ℕ) (vs : List (List ℕ)) → bytes_eq v (f x) ≡ true
      → behind (v ∷ vs) (drop i (map f xs)) ≡ behind vs (drop (i + 1) (map f xs))
  stands v vs e = ap (behind (v ∷ vs)) here ∙ rw e refl

  -- it is another one
  pub stands_elsewhere : (v : List ℕ) (vs : List (List ℕ)) → bytes_eq v (f x) ≡ false → behind (v ∷ vs) (drop i (map f xs)) ≡ None
  stands_elsewhere v vs e = ap (behind (v ∷ vs)) here ∙ rw e refl
