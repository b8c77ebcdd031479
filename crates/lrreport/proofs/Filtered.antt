-- a list of values of those that pass a test, one element more
use Rattle.std.proofs.Common.{◌≡◌, ℕ, ◌+◌, ◌<◌, Bool, true, false, List, [], ◌∷◌, ◌++◌, length, map, get_or, take, append-nil}
use Rattle.std.specs.Prelude.{filter}
use Rattle.std.proofs.lemmas.List.{map-append}
use Rattle.std.proofs.lemmas.List.Elements.{filter_more}

module _ {X Y : Type 0} (p : X → Bool) (f : X → Y) (xs : List X) (i : ℕ) (x : X) (old : List Y) where
  -- an element passes the test, or not
  pub kept_more :
      (new : List Y) → i < length xs → x ≡ get_or xs i x → p x ≡ true → old ≡ map f (filter p (take i xs))
      → new ≡ old ++ f x ∷ [] → new ≡ map f (filter p (take (i + 1) xs))
  kept_more new l at passes o n =
      let kept = filter p (take i xs) in
      rw (filter_more p xs i x l, ← at, passes, map-append f kept (x ∷ []), ← o) n

  pub passed_over :
      i < length xs → x ≡ get_or xs i x → p x ≡ false → old ≡ map f (filter p (take i xs))
      → old ≡ map f (filter p (take (i + 1) xs))
  passed_over l at fails o = rw (filter_more p xs i x l, ← at, fails, append-nil (filter p (take i xs))) o
