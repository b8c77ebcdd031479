-- how much of trees there is to take apart
use Rattle.std.specs.Prelude.{ℕ, ◌+◌}
use Rattle.lrspec.specs.grammars.Trees.{Tree, Forest, Leaf, Node, Bare, And}

abbrev mutual
  -- of a tree behind others
  pub tree_weight : Tree → ℕ
  tree_weight (Leaf t) = 1
  tree_weight (Node p ts) = 2 + forest_weight ts

  -- of trees in a row behind others
  pub forest_weight : Forest → ℕ
  forest_weight Bare = 0
  forest_weight (And t ts) = tree_weight t + forest_weight ts

abbrev mutual
  -- of a tree that comes first, which is less
  pub first_weight : Tree → ℕ
  first_weight (Leaf t) = 1
  first_weight (Node p ts) = 1 + row_weight ts

  -- of trees in a row, the first of which is such a one
  pub row_weight : Forest → ℕ
  row_weight Bare = 0
  row_weight (And t ts) = first_weight t + forest_weight ts
