-- walks over trees, from the last token to the first, and what remains of one
use Rattle.std.specs.Prelude.{◌≡◌, ℕ, ◌<◌, ◌≤◌, List, [], ◌∷◌, ◌++◌, length, take}
use Rattle.lrspec.specs.grammars.Grammar.{Grammar, body_of}
use Rattle.lrspec.specs.grammars.Trees.{Tree, Forest, Leaf, Node, Bare, And, forest_order, IsForest}
use Rattle.lrtree.specs.Visits.{Visit, Token, Enter, Leave}

abbrev mutual
  -- what is come by in a tree in this direction: the visits in reverse
  pub tree_visits_back : Tree → List Visit
  tree_visits_back (Leaf t) = Token t ∷ []
  tree_visits_back (Node p ts) = Leave p ∷ forest_visits_back ts ++ Enter p ∷ []

  -- and in trees in a row, of which the last comes first
  pub forest_visits_back : Forest → List Visit
  forest_visits_back Bare = []
  forest_visits_back (And t ts) = forest_visits_back ts ++ tree_visits_back t

-- an open node, whose end was come by and not its beginning: its production, and how many of its
-- children, the first ones, are missing
pub record Open : Type 0 where
  pub production : ℕ
  pub missing : ℕ

-- the productions left and the visits to come are those of the children that are missing, and
-- before these productions and behind these visits `P` holds
pub record ChildrenThen (g : Grammar) (f : Open) (P : List ℕ → List Visit → Type 0)
    (rs : List ℕ) (es : List Visit) : Type 0 where
  pub there : f.production < length g.productions
  pub fits : f.missing ≤ length (body_of g f.production)
  pub children : Forest
  pub are_trees : IsForest g (take f.missing (body_of g f.production)) children
  pub before : List ℕ
  pub later : List Visit
  pub productions : before ++ forest_order children ≡ rs
  pub visits : forest_visits_back children ++ later ≡ es
  pub behind : P before later

-- behind the children of a node of the production `p`: nothing where it is the outermost one, and
-- else its beginning, and what is missing of the nodes in which it stands, the innermost one first
abbrev pub Behind : Grammar → ℕ → List Open → List ℕ → List Visit → Type 0
Behind g p [] before later = (before ≡ []) × (later ≡ [])
Behind g p (f ∷ fs) before later =
    (es : List Visit) × (Enter p ∷ es ≡ later)
    × ChildrenThen g f (Behind g f.production fs) before es

-- with these open nodes, the innermost one first, and these productions left the visits come
abbrev pub Remains : Grammar → List Open → List ℕ → List Visit → Type 0
Remains g [] rs es = ⊥
Remains g (f ∷ fs) rs es = ChildrenThen g f (Behind g f.production fs) rs es
