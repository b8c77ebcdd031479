-- what the visits of a tree tell of it
use Rattle.std.proofs.Common.{◌≡◌, ℕ, List, [], ◌∷◌, ◌++◌, ap, ◌∙◌, sym, refl, append_assoc, append-nil}
use Rattle.lrspec.specs.grammars.Trees.{Tree, Forest, Leaf, Node, Bare, And, leaves, forest_leaves, order, forest_order}
use Rattle.lrtree.specs.Visits.{Visit, Token, Enter, Leave, tree_visits, forest_visits}

-- the tokens that are come by
abbrev pub tokens_among : List Visit → List ℕ
tokens_among [] = []
tokens_among (Token t ∷ vs) = t ∷ tokens_among vs
tokens_among (Enter p ∷ vs) = tokens_among vs
tokens_among (Leave p ∷ vs) = tokens_among vs

mutual
  -- those of a tree come before those of the other visits
  pub tree_tokens : (t : Tree) (vs : List Visit) → tokens_among (tree_visits t ++ vs) ≡ leaves t ++ tokens_among vs
  tree_tokens (Leaf t) vs = refl
  tree_tokens (Node p ts) vs =
      ap tokens_among (append_assoc (forest_visits ts) (Leave p ∷ []) vs) ∙ forest_tokens ts (Leave p ∷ vs)

  -- and so do those of trees in a row
  forest_tokens : (ts : Forest) (vs : List Visit) → tokens_among (forest_visits ts ++ vs) ≡ forest_leaves ts ++ tokens_among vs
  forest_tokens Bare vs = refl
  forest_tokens (And t ts) vs =
      ap tokens_among (append_assoc (tree_visits t) (forest_visits ts) vs) ∙ tree_tokens t (forest_visits ts ++ vs)
      ∙ ap (λ l. leaves t ++ l) (forest_tokens ts vs) ∙ sym (append_assoc (leaves t) (forest_leaves ts) (tokens_among vs))

-- the tokens of a tree are its leaves
pub tokens_are_leaves : (t : Tree) → tokens_among (tree_visits t) ≡ leaves t
tokens_are_leaves t = ap tokens_among (sym (append-nil (tree_visits t))) ∙ tree_tokens t [] ∙ append-nil (leaves t)

-- the productions whose nodes end
abbrev pub ends_among : List Visit → List ℕ
ends_among [] = []
ends_among (Token t ∷ vs) = ends_among vs
ends_among (Enter p ∷ vs) = ends_among vs
ends_among (Leave p ∷ vs) = p ∷ ends_among vs

mutual
  -- those of a tree come before those of the other visits
  pub tree_ends : (t : Tree) (vs : List Visit) → ends_among (tree_visits t ++ vs) ≡ order t ++ ends_among vs
  tree_ends (Leaf t) vs = refl
  tree_ends (Node p ts) vs =
      ap ends_among (append_assoc (forest_visits ts) (Leave p ∷ []) vs) ∙ forest_ends ts (Leave p ∷ vs)
      ∙ sym (append_assoc (forest_order ts) (p ∷ []) (ends_among vs))

  -- and so do those of trees in a row
  forest_ends : (ts : Forest) (vs : List Visit) → ends_among (forest_visits ts ++ vs) ≡ forest_order ts ++ ends_among vs
  forest_ends Bare vs = refl
  forest_ends (And t ts) vs =
      ap ends_among (append_assoc (tree_visits t) (forest_visits ts) vs) ∙ tree_ends t (forest_visits ts ++ vs)
      ∙ ap (λ l. order t ++ l) (forest_ends ts vs) ∙ sym (append_assoc (order t) (forest_order ts) (ends_among vs))

-- the productions of a tree are in order
pub ends_are_order : (t : Tree) → ends_among (tree_visits t) ≡ order t
ends_are_order t = ap ends_among (sym (append-nil (tree_visits t))) ∙ tree_ends t [] ∙ append-nil (order t)
