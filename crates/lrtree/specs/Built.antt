-- what the visits of a walk build
use Rattle.std.specs.Prelude.{List, ◌∷◌, fold, Option, None, Some}
use Rattle.lrspec.specs.grammars.Trees.{Forest, Leaf, Node, Bare, And}
use Rattle.lrtree.specs.Visits.{Visit, Token, Enter, Leave}

-- the children of the open nodes behind an visit, those of the innermost node first; None where
-- the visit does not fit
abbrev pub with_visit : List Forest → Visit → Option (List Forest)
with_visit rows (Leave p) = Some (Bare ∷ rows)
with_visit (ts ∷ rows) (Token t) = Some (And (Leaf t) ts ∷ rows)
with_visit (ts ∷ us ∷ rows) (Enter p) = Some (And (Node p ts) us ∷ rows)
with_visit _ _ = None

-- the same where the visits before it fit
abbrev pub then_visit : Option (List Forest) → Visit → Option (List Forest)
then_visit None e = None
then_visit (Some rows) e = with_visit rows e

-- the children behind all the visits
abbrev pub with_visits : List Forest → List Visit → Option (List Forest)
with_visits rows es = fold then_visit (Some rows) es
