-- the texts of reductions, as they are written one behind the other
use Rattle.std.proofs.Common.{◌≡◌, ◌++◌, append_assoc, ℕ, ◌+◌, ◌<◌, ◌≤◌, List, [], ◌∷◌, length, map, take, get_or, sym, ap, ◌∙◌}
use Rattle.std.specs.List.{flat_map}
use Rattle.std.proofs.lemmas.List.{map-append, take_more, take_all, append-nil}
use Rattle.std.proofs.lemmas.Grind.{flat_map-append}

module _ {X : Type 0} (f : X → ℕ) (h : ℕ → List ℕ) (xs : List X) (i : ℕ) where
  -- the pieces up to the next element
  one_more : (x : X) → i < length xs → x ≡ get_or xs i x → flat_map h (map f (take (i + 1) xs)) ≡ flat_map h (map f (take i xs)) ++ h (f x)
  one_more x l e =
      ap (λ ys. flat_map h (map f ys)) (take_more xs i x l ∙ ap (λ y. take i xs ++ y ∷ []) (sym e))
      ∙ (ap (flat_map h) (map-append f (take i xs) (x ∷ []))
      ∙ (flat_map-append h (map f (take i xs)) (f x ∷ []) ∙ ap (λ t. flat_map h (map f (take i xs)) ++ t) (append-nil (h (f x)))))

  -- a piece more is written
  pub turn :
      (x : X) (first before after : List ℕ) → i < length xs → x ≡ get_or xs i x → before ≡ first ++ flat_map h (map f (take i xs))
      → after ≡ before ++ h (f x) → after ≡ first ++ flat_map h (map f (take (i + 1) xs))
  turn x first before after l e p q =
      q ∙ (ap (λ t. t ++ h (f x)) p ∙ (append_assoc first (flat_map h (map f (take i xs))) (h (f x)) ∙ ap (λ t. first ++ t) (sym (one_more x l e))))

  -- all pieces are written
  pub all_turns : (first after : List ℕ) → length xs ≤ i → after ≡ first ++ flat_map h (map f (take i xs)) → after ≡ first ++ flat_map h (map f xs)
  all_turns first after l p = p ∙ ap (λ ys. first ++ flat_map h (map f ys)) (take_all i xs l)
