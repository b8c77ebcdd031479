-- the entries of both lists are listed
use Rattle.std.proofs.Common.{◌≡◌, ℕ, ◌+◌, ◌<◌, zero, suc, List, [], ◌∷◌, map, refl, arith, inl, inr}
use Rattle.std.specs.Prelude.{Contains}
use Rattle.std.proofs.lemmas.List.Elements.{Contains-append_cases}
use Rattle.lrspec.specs.grammars.Grammar.{Grammar}
use Rattle.lrspec.specs.merging.Graph.{Graph}
use Rattle.lrspec.specs.tables.Table.{shift_reduce_of, reduce_reduce_of}
use Rattle.lrconflicts.specs.Entries.{Entry, ShiftReduce, ReduceReduce, entries_of, lists_in, IsListed}

-- what is among the images is one of an element
in_map : {X Y : Type 0} (f : X → Y) (xs : List X) (y : Y) → Contains (map f xs) y → (x : X) × Contains xs x × (f x ≡ y)
in_map f [] y (i, l, e) = absurd (omega arith)
in_map f (x ∷ xs) y (zero, l, e) = (x, (0, omega arith, refl), e)
in_map f (x ∷ xs) y (suc i, l, e) =
    let (z, (k, below, at), is) = in_map f xs y (i, omega arith, e) in
    (z, (suc k, omega arith, at), is)

pub entries_listed : (g : Grammar) (h : Graph) (e : Entry) → Contains (entries_of (lists_in g h)) e → IsListed g h e
entries_listed g h e there =
    elim (Contains-append_cases (map (λ x. ShiftReduce x) (shift_reduce_of g h)) (map (λ x. ReduceReduce x) (reduce_reduce_of g h)) e there) [
      | inl a ↦ let (x, listed, is) = in_map (λ x. ShiftReduce x) (shift_reduce_of g h) e a in rw (← is) listed
      | inr b ↦ let (x, listed, is) = in_map (λ x. ReduceReduce x) (reduce_reduce_of g h) e b in rw (← is) listed
    ]
