-- lists that are kept with their first element last
use Rattle.std.proofs.Common.{◌≡◌, ℕ, ◌+◌, ◌<◌, List, [], ◌∷◌, ◌++◌, length, map, reverse, take, set, get_or, sym, ap, ◌∙◌, arith}
use Rattle.std.proofs.lemmas.List.{take_all, take_more, take_more_set, reverse-append, map-append, length-set}

module _ {X Y : Type 0} (f : X → Y) (xs : List X) where
  -- what is pushed comes first
  pub pushed_first : (x : X) → reverse (map f (xs ++ x ∷ [])) ≡ f x ∷ reverse (map f xs)
  pushed_first x = ap reverse (map-append f xs (x ∷ [])) ∙ reverse-append (map f xs) (f x ∷ [])

module _ {X Y : Type 0} (f : X → Y) (xs : List X) (last : ℕ) (count : last + 1 ≡ length xs) where
  -- the last and those before it
  pub split_last : (x : X) → x ≡ get_or xs last x → xs ≡ take last xs ++ x ∷ []
  split_last x e =
      let low : last < length xs = omega arith in
      sym (take_all (last + 1) xs (omega arith)) ∙ take_more xs last x low ∙ ap (λ y. take last xs ++ y ∷ []) (sym e)

  -- the last comes first
  pub last_first : (x : X) → x ≡ get_or xs last x → reverse (map f xs) ≡ f x ∷ reverse (map f (take last xs))
  last_first x e = ap (λ ys. reverse (map f ys)) (split_last x e) ∙ pushed_first f (take last xs) x

  -- the list with another one in its place
  pub set_split : (x : X) → set xs last x ≡ take last xs ++ x ∷ []
  set_split x =
      let low : last < length xs = omega arith in
      sym (take_all (last + 1) (set xs last x) (omega (arith, length-set xs last x))) ∙ take_more_set xs last x low

  -- that one comes first
  pub set_first : (x : X) → reverse (map f (set xs last x)) ≡ f x ∷ reverse (map f (take last xs))
  set_first x = ap (λ ys. reverse (map f ys)) (set_split x) ∙ pushed_first f (take last xs) x
