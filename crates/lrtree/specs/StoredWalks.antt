-- walks, as the code stores them, by plain lists
use Rattle.std.specs.Prelude.{◌≡◌, ℕ, ◌+◌, ◌*◌, List, [], ◌∷◌, map, reverse, length, sum_by, Option, None, Some}
use Rattle.lrspec.specs.grammars.Grammar.{Grammar}
use Rattle.lrtree.specs.declared.walks.Open as stored
use Rattle.lrtree.specs.declared.visits.Visit as stored_visit
use Rattle.lrtree.specs.declared.walks.Walk.{Walk}
use Rattle.lrtree.specs.Visits.{Visit}
use Rattle.lrtree.specs.StoredVisits.{visit_of}
use Rattle.lrtree.specs.Walks.{Open, Remains}

-- an open node
abbrev pub node_of : {T : Type 0} → (T → ℕ) → stored.Open T → Open
node_of number o = record { production = number o.pidx.0; missing = o.missing }

-- the open nodes, the innermost one first, which is kept last
abbrev pub open_of : {T : Type 0} → (T → ℕ) → Walk T → List Open
open_of number w = reverse (map (node_of number) w.open.items)

-- the productions that are left
abbrev pub left_of : {T : Type 0} → (T → ℕ) → Walk T → List ℕ
left_of number w = map (λ p. number p.0) w.left.items

-- what falls with each visit, where indices are at most `most`
abbrev pub weight_of : {T : Type 0} → ℕ → Walk T → ℕ
weight_of most w =
    sum_by (λ (o : stored.Open _). o.missing + 1) w.open.items + length w.left.items * (most + 2)

-- some visits remain
abbrev pub HasRemaining : Grammar → List Open → List ℕ → Type 0
HasRemaining g fs rs = (es : List Visit) × Remains g fs rs es

-- what a walk comes by is the first of the visits, and `P` holds of the others; at the end there is
-- none
abbrev pub Follows :
    {T : Type 0} → (T → ℕ) → Option (stored_visit.Visit T) → List Visit → (List Visit → Type 0)
    → Type 0
Follows number None es P = es ≡ []
Follows number (Some e) es P = (rest : List Visit) × (es ≡ visit_of number e ∷ rest) × P rest
