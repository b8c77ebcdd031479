-- whether lists of texts are the same
use Rattle.std.proofs.Common.{◌≡◌, nat_eq, ◌&&◌, List, [], ◌∷◌, map, string_bytes, string_eq, refl, sym, ap, subst}
use Rattle.std.specs.Cmp.Lexicographic.{pointwise, pointwise_decides, bytes_decides}
use Rattle.std.specs.Bool.{Decides}
use Rattle.std.specs.declared.string.String.{String}

-- they are compared as their bytes are
by_bytes : {Z : Type 0} (xs ys : List (String Z)) → pointwise string_eq xs ys ≡ pointwise (pointwise nat_eq) (map string_bytes xs) (map string_bytes ys)
by_bytes [] [] = refl
by_bytes [] (y ∷ ys) = refl
by_bytes (x ∷ xs) [] = refl
by_bytes (x ∷ xs) (y ∷ ys) = ap (λ b. string_eq x y && b) (by_bytes xs ys)

pub same_texts : {Z : Type 0} (xs ys : List (String Z)) → Decides (pointwise string_eq xs ys) (map string_bytes xs ≡ map string_bytes ys)
same_texts xs ys =
    subst (λ b. Decides b (map string_bytes xs ≡ map string_bytes ys)) (sym (by_bytes xs ys)) (pointwise_decides bytes_decides (map string_bytes xs) (map string_bytes ys))
