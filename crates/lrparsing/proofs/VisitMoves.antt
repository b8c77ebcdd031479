-- the moves that the visits of a tree tell
use Rattle.std.proofs.Common.{◌≡◌, List, [], ◌∷◌, ◌++◌, ap, ◌∙◌, sym, refl, append_assoc, append-nil}
use Rattle.lrspec.specs.grammars.Trees.{Tree, Forest, Leaf, Node, Bare, And}
use Rattle.lrconflicts.specs.Moves.{Move, Shift, Reduce, moves_of, forest_moves}
use Rattle.lrtree.specs.Visits.{Visit, Token, Enter, Leave, tree_visits, forest_visits}

-- a shift where a token is come by, and a reduction where a node ends
abbrev pub moves_among : List Visit → List Move
moves_among [] = []
moves_among (Token t ∷ vs) = Shift ∷ moves_among vs
moves_among (Enter p ∷ vs) = moves_among vs
moves_among (Leave p ∷ vs) = Reduce p ∷ moves_among vs

mutual
  -- those of a tree come before those of the other visits
  tree_moves : (t : Tree) (vs : List Visit) → moves_among (tree_visits t ++ vs) ≡ moves_of t ++ moves_among vs
  tree_moves (Leaf t) vs = refl
  tree_moves (Node p ts) vs =
      ap moves_among (append_assoc (forest_visits ts) (Leave p ∷ []) vs) ∙ row_moves ts (Leave p ∷ vs)
      ∙ sym (append_assoc (forest_moves ts) (Reduce p ∷ []) (moves_among vs))

  -- and so do those of trees in a row
  row_moves : (ts : Forest) (vs : List Visit) → moves_among (forest_visits ts ++ vs) ≡ forest_moves ts ++ moves_among vs
  row_moves Bare vs = refl
  row_moves (And t ts) vs =
      ap moves_among (append_assoc (tree_visits t) (forest_visits ts) vs) ∙ tree_moves t (forest_visits ts ++ vs)
      ∙ ap (λ l. moves_of t ++ l) (row_moves ts vs) ∙ sym (append_assoc (moves_of t) (forest_moves ts) (moves_among vs))

-- the moves of a tree
pub moves_are_of : (t : Tree) → moves_among (tree_visits t) ≡ moves_of t
moves_are_of t = ap moves_among (sym (append-nil (tree_visits t))) ∙ tree_moves t [] ∙ append-nil (moves_of t)
