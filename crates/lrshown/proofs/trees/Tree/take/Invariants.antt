-- as many trees were taken as there were symbols
use Rattle.std.proofs.Common.{◌≡◌, ◌++◌, List, map}
use Rattle.lrshown.specs.declared.trees.Node.{Node}
use Rattle.lrshown.specs.DrawnTrees.{Row, last_trees, trees_before, row_nodes}
use Rattle.lrshown.specs.StoredTrees.{IsLaid}
use Rattle.lrshown.proofs.trees.Tree.take.Given as goal

abbrev pub invariant-loop-symbol : goal.invariant-loop-symbol
invariant-loop-symbol l =
    ((ts : Row) (below : List Node) → IsLaid l.initial.self ts below
    → let symbols = map (λ s. s.now) l.yielded in IsLaid l.self (trees_before symbols ts) (row_nodes (last_trees symbols ts) ++ below))
    × (l.self.entered ≡ l.initial.self.entered)
