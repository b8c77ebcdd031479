-- visits, as the code stores them
use Rattle.std.specs.Prelude.{ℕ, List, [], ◌∷◌, ◌++◌, reverse, Option, None, Some}
use Rattle.std.specs.Borrow.{Bor}
use Rattle.lrtree.specs.declared.visits.Visit as stored
use Rattle.lrtree.specs.declared.visits.Visit.TheVariants as code
use Rattle.lrtree.specs.declared.visits.Open.{Open}
use Rattle.lrtree.specs.declared.visits.Visits.TheInside.{Inside}
use Rattle.lrtree.specs.StoredTrees.{forest_of}
use Rattle.lrtree.specs.Visits.{Visit, Token, Enter, Leave, forest_visits}

-- what is come by
abbrev pub visit_of : {T : Type 0} → (T → ℕ) → stored.Visit T → Visit
visit_of number (code.Token t) = Token (number t.0)
visit_of number (code.Enter p) = Enter (number p.0)
visit_of number (code.Leave p) = Leave (number p.0)

-- the trees that come next: the root, where it was not come by, and the others
abbrev pub next_trees : {X : Type 0} → Option (Bor X) → List X → List X
next_trees None ts = ts
next_trees (Some t) ts = t.now ∷ ts

-- what comes behind the trees of the open nodes, the innermost node first: its end, and the trees
-- behind it
abbrev pub left_of_nodes : {T : Type 0} → (T → ℕ) → List (Open T) → List Visit
left_of_nodes number [] = []
left_of_nodes number (o ∷ os) =
    Leave (number o.pidx.0) ∷ forest_visits (forest_of number o.behind.now)
    ++ left_of_nodes number os

-- what is left to be come by
abbrev pub visits_left : {T : Type 0} → (T → ℕ) → Inside T → List Visit
visits_left number v =
    forest_visits (forest_of number (next_trees v.root v.trees.now))
    ++ left_of_nodes number (reverse v.«open».items)
