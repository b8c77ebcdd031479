-- the visits of a tree build the tree
use Rattle.std.proofs.Common.{◌≡◌, ℕ, List, [], ◌∷◌, refl, sym, ap, ◌∙◌, Option, None, Some, fold}
use Rattle.std.specs.Prelude.{IsSome}
use Rattle.std.proofs.lemmas.List.Sums.{fold-append}
use Rattle.lrspec.specs.grammars.Grammar.{Grammar}
use Rattle.lrspec.specs.grammars.Trees.{Tree, Forest, Leaf, Node, Bare, And, joined}
use Rattle.lrtree.specs.Visits.{Visit, Enter}
use Rattle.lrtree.specs.Walks.{tree_visits_back, forest_visits_back, Open, Remains}
use Rattle.lrtree.specs.Built.{with_visit, then_visit, with_visits}

-- nothing behind a forest is the forest
joined_bare : (ts : Forest) → joined ts Bare ≡ ts
joined_bare Bare = refl
joined_bare (And t ts) = ap (λ us. And t us) (joined_bare ts)

mutual
  -- a tree comes in front of the children that are there
  pub tree_built : (t : Tree) (us : Forest) (rows : List Forest) → with_visits (us ∷ rows) (tree_visits_back t) ≡ Some (And t us ∷ rows)
  tree_built (Leaf t) us rows = refl
  tree_built (Node p ts) us rows =
      fold-append then_visit (Some (Bare ∷ us ∷ rows)) (forest_visits_back ts) (Enter p ∷ [])
      ∙ ap (λ o. then_visit o (Enter p)) (forest_built ts Bare (us ∷ rows))
      ∙ ap (λ vs. Some (And (Node p vs) us ∷ rows)) (joined_bare ts)

  -- and trees in a row do
  pub forest_built : (ts us : Forest) (rows : List Forest) → with_visits (us ∷ rows) (forest_visits_back ts) ≡ Some (joined ts us ∷ rows)
  forest_built Bare us rows = refl
  forest_built (And t ts) us rows =
      fold-append then_visit (Some (us ∷ rows)) (forest_visits_back ts) (tree_visits_back t)
      ∙ ap (λ o. fold then_visit o (tree_visits_back t)) (forest_built ts us rows) ∙ tree_built t (joined ts us) rows

-- behind an visit that does not fit no other fits
none_fits : (es : List Visit) → fold then_visit None es ≡ None
none_fits [] = refl
none_fits (e ∷ es) = none_fits es

-- where all visits fit, the first does
pub first_fits : (rows : List Forest) (e : Visit) (es : List Visit) (x : List Forest) → with_visits rows (e ∷ es) ≡ Some x → IsSome (with_visit rows e)
first_fits rows e es x k = by_first (with_visit rows e) k
  where
    by_first : (o : Option (List Forest)) → fold then_visit o es ≡ Some x → IsSome o
    by_first None h = let none : None ≡ Some x = sym (none_fits es) ∙ h in cc
    by_first (Some r) h = refl

-- and the others fit behind it
pub others_fit : (rows new : List Forest) (e : Visit) (es : List Visit) (o : Option (List Forest)) → with_visit rows e ≡ Some new → with_visits rows (e ∷ es) ≡ o → with_visits new es ≡ o
others_fit rows new e es o k h = ap (λ r. fold then_visit r es) (sym k) ∙ h

-- the visits that remain build the tree behind the rows
abbrev pub IsBuilding : Grammar → List Open → List ℕ → List Forest → Tree → Type 0
IsBuilding g fs rs rows t = (es : List Visit) × Remains g fs rs es × (with_visits rows es ≡ Some (And t Bare ∷ []))

-- those of the tree do so at first
pub building_starts : (rows : List Forest) (t : Tree) → rows ≡ Bare ∷ [] → with_visits rows (tree_visits_back t) ≡ Some (And t Bare ∷ [])
building_starts rows t e = ap (λ r. with_visits r (tree_visits_back t)) e ∙ tree_built t Bare []

-- at the end the rows are what was built
pub built_at_end : (rows : List Forest) (es : List Visit) (x : List Forest) → es ≡ [] → with_visits rows es ≡ Some x → rows ≡ x
built_at_end rows es x e k = let some : Some rows ≡ Some x = ap (with_visits rows) (sym e) ∙ k in cc
