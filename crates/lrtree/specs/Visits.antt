-- going through trees, from the first token to the last
use Rattle.std.specs.Prelude.{ℕ, ◌<◌, Bool, true, false, List, [], ◌∷◌, ◌++◌, codes, length}
use Rattle.lrspec.specs.grammars.Grammar.{Grammar, end_token}
use Rattle.lrspec.specs.grammars.Trees.{Tree, Forest, Leaf, Node, Bare, And}
use Rattle.lrspec.specs.texts.MachineLines.{production_label}
use Rattle.lrspec.specs.texts.PrintedTexts.{token_text}

-- what is come by: a token, or the beginning or the end of a node of this production
pub data Visit : Type 0 where
  Token Enter Leave : ℕ → Visit

abbrev mutual
  -- what is come by in a tree: a node comes before its children and behind them
  pub tree_visits : Tree → List Visit
  tree_visits (Leaf t) = Token t ∷ []
  tree_visits (Node p ts) = Enter p ∷ forest_visits ts ++ Leave p ∷ []

  -- and in trees in a row
  pub forest_visits : Forest → List Visit
  forest_visits Bare = []
  forest_visits (And t ts) = tree_visits t ++ forest_visits ts

-- ---- their texts

-- what is come by is of the grammar: a named token, or a production
abbrev pub IsVisitOf : Grammar → Visit → Type 0
IsVisitOf g (Token t) = t < end_token g
IsVisitOf g (Enter p) = p < length g.productions
IsVisitOf g (Leave p) = p < length g.productions

-- a space, unless what follows is the first of its node
abbrev pub gap_unless : Bool → List ℕ
gap_unless true = []
gap_unless false = codes " "

-- what is written for a visit, which is the first of its node or not
abbrev pub visit_text : Grammar → Bool → Visit → List ℕ
visit_text g first (Token t) = gap_unless first ++ token_text g t
visit_text g first (Enter p) = gap_unless first ++ production_label g p ++ codes "("
visit_text g first (Leave p) = codes ")"

-- whether what follows is the first of its node
abbrev pub is_enter : Visit → Bool
is_enter (Enter p) = true
is_enter _ = false

-- what is written for visits one after another
abbrev pub visits_text : Grammar → Bool → List Visit → List ℕ
visits_text g first [] = []
visits_text g first (v ∷ vs) = visit_text g first v ++ visits_text g (is_enter v) vs
