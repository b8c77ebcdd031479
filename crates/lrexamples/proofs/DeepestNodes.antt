-- how deep a walk comes
use Rattle.std.proofs.Common.{◌≡◌, ℕ, ◌+◌, ◌-◌, ◌≤◌, max, List, [], ◌∷◌, ◌++◌, sym, ap, ◌∙◌, append_assoc, append-nil, arith}
use Rattle.lrspec.specs.grammars.Trees.{Tree, Forest, Leaf, Node, Bare, And}
use Rattle.lrtree.specs.Visits.{Visit, Token, Enter, Leave, tree_visits, forest_visits}
use Rattle.lrexamples.specs.Depths.{depth, forest_depth}

-- how many nodes stand above one another at most, where `n` are open and `most` stood so by now
abbrev pub deepest : ℕ → ℕ → List Visit → ℕ
deepest n most [] = most
deepest n most (Token t ∷ vs) = deepest n most vs
deepest n most (Enter p ∷ vs) = deepest (n + 1) (max most (n + 1)) vs
deepest n most (Leave p ∷ vs) = deepest (n - 1) most vs

mutual
  -- those of a tree stand on the open ones
  tree_deepest : (t : Tree) (k m : ℕ) (vs : List Visit) → k ≤ m → deepest k m (tree_visits t ++ vs) ≡ deepest k (max m (k + depth t)) vs
  tree_deepest (Leaf t) k m vs l = ap (λ n. deepest k n vs) (omega arith)
  tree_deepest (Node p ts) k m vs l =
      ap (deepest (k + 1) (max m (k + 1))) (append_assoc (forest_visits ts) (Leave p ∷ []) vs)
      ∙ forest_deepest ts (k + 1) (max m (k + 1)) (Leave p ∷ vs) (omega arith)
      ∙ ap (λ n. deepest n (max (max m (k + 1)) (k + 1 + forest_depth ts)) vs) (omega arith)
      ∙ ap (λ n. deepest k n vs) (omega arith)

  forest_deepest : (ts : Forest) (k m : ℕ) (vs : List Visit) → k ≤ m → deepest k m (forest_visits ts ++ vs) ≡ deepest k (max m (k + forest_depth ts)) vs
  forest_deepest Bare k m vs l = ap (λ n. deepest k n vs) (omega arith)
  forest_deepest (And t ts) k m vs l =
      ap (deepest k m) (append_assoc (tree_visits t) (forest_visits ts) vs)
      ∙ tree_deepest t k m (forest_visits ts ++ vs) l
      ∙ forest_deepest ts k (max m (k + depth t)) vs (omega arith)
      ∙ ap (λ n. deepest k n vs) (omega arith)

-- the walk over a whole tree
pub walk_depth : (t : Tree) → deepest 0 0 (tree_visits t) ≡ depth t
walk_depth t =
    ap (deepest 0 0) (sym (append-nil (tree_visits t)))
    ∙ tree_deepest t 0 0 [] (omega arith)
    ∙ omega arith
