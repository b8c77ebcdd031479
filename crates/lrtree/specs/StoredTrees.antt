-- trees, as the code stores them, as plain trees
use Rattle.std.specs.Prelude.{ℕ, List, [], ◌∷◌, map, reverse}
use Rattle.std.specs.declared.vec.Vec.{Vec}
use Rattle.std.specs.declared.alloc.Global.{Global}
use Rattle.lrspec.specs.grammars.Trees as math
use Rattle.lrspec.specs.grammars.Trees.{Forest, Bare, And}
use Rattle.lrtree.specs.declared.trees.Tree.{Tree}
use Rattle.lrtree.specs.declared.trees.Tree.TheOpen as level
use Rattle.lrtree.specs.declared.trees.Tree.TheFolds.{fold-Tree}

-- trees in a row
abbrev pub forest_of_list : List math.Tree → Forest
forest_of_list [] = Bare
forest_of_list (t ∷ ts) = And t (forest_of_list ts)

-- a tree with plain trees in place of its children
abbrev pub tree_step : {T : Type 0} → (T → ℕ) → level.Tree-F T math.Tree → math.Tree
tree_step number (level.Token t) = math.Tree.Leaf (number t.0)
tree_step number (level.Node p children) =
    math.Tree.Node (number p.0) (forest_of_list children.items)

-- a stored tree as a plain tree
abbrev pub tree_of : {T : Type 0} → (T → ℕ) → Tree T → math.Tree
tree_of {T} number = fold-Tree T math.Tree (tree_step number)

-- stored trees in a row
abbrev pub forest_of : {T : Type 0} → (T → ℕ) → List (Tree T) → Forest
forest_of number ts = forest_of_list (map (tree_of number) ts)

-- the children of the open nodes, which are kept last child first, and those of the innermost node
-- last
abbrev pub forests_of : {T : Type 0} → (T → ℕ) → List (Vec (Tree T) Global) → List Forest
forests_of number rows = reverse (map (λ row. forest_of number (reverse row.items)) rows)
