-- how deep trees are
use Rattle.std.specs.Prelude.{ℕ, suc, max}
use Rattle.lrspec.specs.grammars.Trees.{Tree, Forest, Leaf, Node, Bare, And}

abbrev mutual
  -- how many nodes of a tree stand above one another at most
  pub depth : Tree → ℕ
  depth (Leaf t) = 0
  depth (Node p ts) = suc (forest_depth ts)

  -- and of trees in a row
  pub forest_depth : Forest → ℕ
  forest_depth Bare = 0
  forest_depth (And t ts) = max (depth t) (forest_depth ts)
