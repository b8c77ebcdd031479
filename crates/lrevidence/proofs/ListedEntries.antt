-- an entry of the findings is one of the table's lists
use Rattle.std.proofs.Common.{◌≡◌, zero, suc, List, [], ◌∷◌, map, refl, ap, arith, inl, inr}
use Rattle.std.specs.Prelude.{Contains}
use Rattle.std.proofs.lemmas.List.Elements.{Contains-append_cases}
use Rattle.std.proofs.lemmas.List.Sorted.{Contains-permutation, IsPermutation-sym}
use Rattle.lrspec.specs.grammars.Grammar.{Grammar}
use Rattle.lrspec.specs.merging.Graph.{Graph}
use Rattle.lrspec.specs.tables.Table.{shift_reduce_of, reduce_reduce_of}
use Rattle.lrverdicts.specs.declared.conflicts.Entry.{Entry}
use Rattle.lrverdicts.specs.Listed.{Listing, told, listed, shift_listing, reduction_listing}
use Rattle.lrconflicts.specs.Entries.{lists_in, entry_by, IsListed}
use Rattle.lrevidence.specs.Entries.{AreListedIn}

-- an image is among the images
among_images : {X Y : Type 0} (f : X → Y) (xs : List X) (x : X) → Contains xs x → Contains (map f xs) (f x)
among_images f [] x (i, l, e) = absurd (omega arith)
among_images f (y ∷ xs) x (zero, l, e) = (0, omega arith, ap f e)
among_images f (y ∷ xs) x (suc i, l, e) =
    let (k, below, at) = among_images f xs x (i, omega arith, e) in
    (suc k, omega arith, at)

-- what is among the images is one of an element
in_map : {X Y : Type 0} (f : X → Y) (xs : List X) (y : Y) → Contains (map f xs) y → (x : X) × Contains xs x × (f x ≡ y)
in_map f [] y (i, l, e) = absurd (omega arith)
in_map f (x ∷ xs) y (zero, l, e) = (x, (0, omega arith, refl), e)
in_map f (x ∷ xs) y (suc i, l, e) =
    let (z, (k, below, at), is) = in_map f xs y (i, omega arith, e) in
    (z, (suc k, omega arith, at), is)

of_listing : (g : Grammar) (h : Graph) (l : Listing) → Contains (listed (lists_in g h)) l → IsListed g h (entry_by l.0 l.1 l.3 l.2)
of_listing g h l there =
    elim (Contains-append_cases (map shift_listing (shift_reduce_of g h)) (map reduction_listing (reduce_reduce_of g h)) l there) [
      | inl a ↦ let (x, among, is) = in_map shift_listing (shift_reduce_of g h) l a in rw (← is) among
      | inr b ↦ let (x, among, is) = in_map reduction_listing (reduce_reduce_of g h) l b in rw (← is) among
    ]

pub is_listed : (g : Grammar) (h : Graph) (entries : List Entry) (e : Entry) → AreListedIn g h entries → Contains entries e → IsListed g h (entry_by e.token e.production e.state e.other)
is_listed g h entries e these there =
    of_listing g h (told e)
    (Contains-permutation (map told entries) (listed (lists_in g h)) (told e)
    (IsPermutation-sym (listed (lists_in g h)) (map told entries) these) (among_images told entries e there))
