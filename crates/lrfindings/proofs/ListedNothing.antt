-- a table that has no entries lists nothing
use Rattle.std.proofs.Common.{◌≡◌, List, [], ◌∷◌, ◌++◌, map, refl, subst}
use Rattle.std.specs.List.Sorted.{IsPermutation}
use Rattle.std.proofs.lemmas.List.Sorted.{IsPermutation-sym}
use Rattle.lrspec.specs.tables.LrTables.{ListsNothing}
use Rattle.lrspec.specs.tables.Table.{Table, lists_of}
use Rattle.lrverdicts.specs.declared.conflicts.Entry.{Entry}
use Rattle.lrverdicts.specs.Listed.{told, listed, shift_listing, reduction_listing}
use Rattle.lrfindings.proofs.FoundNothing.{no_more}

-- both parts of a list without elements have none
both : {X Y Z : Type 0} (f : X → Z) (g : Y → Z) (xs : List X) (ys : List Y) → map f xs ++ map g ys ≡ [] → (xs ≡ []) × (ys ≡ [])
both f g [] [] e = (refl, refl)
both f g [] (y ∷ ys) e = absurd cc
both f g (x ∷ xs) ys e = absurd cc

-- what has the elements of a list without any has none
empty_by : {X Y : Type 0} (f : Y → X) (xs : List X) (ys : List Y) → IsPermutation xs (map f ys) → ys ≡ [] → xs ≡ []
empty_by f xs ys moved none =
    let back : IsPermutation (map f ys) xs = IsPermutation-sym _ _ moved in
    no_more _ (subst (λ zs. IsPermutation (map f zs) xs) none back)

pub lists_nothing : (b : Table) (es : List Entry) → IsPermutation (listed (lists_of b)) (map told es) → es ≡ [] → ListsNothing b
lists_nothing b es moved none =
    let empty : listed (lists_of b) ≡ [] = empty_by told _ es moved none in
    let (shifts, reductions) = both shift_listing reduction_listing (lists_of b).shift_reduce (lists_of b).reduce_reduce empty in
    (reductions, shifts)
