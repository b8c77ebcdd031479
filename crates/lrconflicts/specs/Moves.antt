-- the moves by which a parser puts a tree together
use Rattle.std.specs.Prelude.{◌≡◌, ℕ, List, [], ◌∷◌, ◌++◌}
use Rattle.lrspec.specs.grammars.Grammar.{Rule, Grammar, body_of}
use Rattle.lrspec.specs.grammars.Candidates as candidate
use Rattle.lrspec.specs.grammars.Candidates.{Candidate}
use Rattle.lrspec.specs.grammars.Trees.{Tree, Forest, Leaf, Node, Bare, And, leaves, IsTree, IsSentence}

-- what a parser does: it shifts the next token of the text, or reduces by a production
pub data Move : Type 0 where
  Shift : Move
  Reduce : ℕ → Move

abbrev mutual
  -- the moves of a tree: a token is shifted, and a node is reduced behind the moves of its children
  pub moves_of : Tree → List Move
  moves_of (Leaf t) = Shift ∷ []
  moves_of (Node p ts) = forest_moves ts ++ Reduce p ∷ []

  -- and those of trees in a row
  pub forest_moves : Forest → List Move
  forest_moves Bare = []
  forest_moves (And t ts) = moves_of t ++ forest_moves ts

-- the tree is one for the start rule, which is the body of the start production
pub record IsTreeOfStart (g : Grammar) (t : Tree) : Type 0 where
  pub rule : ℕ
  pub start : body_of g g.start_production ≡ Rule rule ∷ []
  pub is_tree : IsTree g (Rule rule) t

-- these moves put the tree together, which is one of the text for the start rule
pub record IsTreeBy (g : Grammar) (ms : List Move) (text : List ℕ) (t : Tree) : Type 0 where
  pub of_start : IsTreeOfStart g t
  pub leaves_are : leaves t ≡ text
  pub moves_are : moves_of t ≡ ms

-- these moves put together no tree of the text
abbrev pub HasNoTree : Grammar → List Move → List ℕ → Type 0
HasNoTree g ms text = (t : Tree) → ¬ (IsTreeBy g ms text t)

-- the text is a sentence, and this is a tree of it
abbrev pub IsTreeOfText : Grammar → List ℕ → Tree → Type 0
IsTreeOfText g text t = (s : IsSentence g text) × (s.tree ≡ t)

-- what can be done where the move is made
abbrev pub candidate_of : Move → Candidate
candidate_of Shift = candidate.Candidate.Shift
candidate_of (Reduce p) = candidate.Candidate.Reduce p
