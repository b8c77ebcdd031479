-- a reason for one conflict more
use Rattle.std.proofs.Common.{◌≡◌, ◌+◌, ◌<◌, ℕ, List, [], ◌∷◌, ◌++◌, length, map, take, refl, sym, ap, ◌∙◌}
use Rattle.std.specs.Prelude.{All, slice_index_or}
use Rattle.std.proofs.lemmas.List.{map-append, take_more}
use Rattle.std.proofs.lemmas.List.Elements.{All-append, All-cons, All-nil}

-- what is known of one list and of the beginning of another, with one element more in both
pub one_more :
    {X Y Z : Type 0} (f : X → Z) (h : Y → Z) (old new : List X) (r : X) (items : List Y) (i : ℕ) (y : Y)
    → i < length items → y ≡ slice_index_or items i y → map f old ≡ map h (take i items) → new ≡ old ++ r ∷ [] → f r ≡ h y
    → map f new ≡ map h (take (i + 1) items)
one_more f h old new r items i y l at so more same =
    let taken : take (i + 1) items ≡ take i items ++ y ∷ [] = take_more items i y l ∙ ap (λ x. take i items ++ x ∷ []) (sym at) in
    rw (more, map-append f old (r ∷ []), taken, map-append h (take i items) (y ∷ []), so, same) refl

-- all are, with one more that is
pub all_more : {X : Type 0} (P : X → Type 0) (old new : List X) (r : X) → All P old → new ≡ old ++ r ∷ [] → P r → All P new
all_more P old new r all more this = rw more (All-append P old (r ∷ []) all (All-cons P r [] this (All-nil P)))
