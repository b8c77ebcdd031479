use Rattle.std.proofs.Common.{◌≡◌, ◌++◌, length, map}
use Rattle.lrspec.specs.grammars.Trees.{order}
use Rattle.lrtree.specs.StoredTrees.{tree_of}
use Rattle.lrtree.proofs.VisitFacts.{ends_among}
use Rattle.lrtree.proofs.trees.Tree.productions.Given as goal

abbrev pub invariant-loop-visits : goal.invariant-loop-visits
invariant-loop-visits g l =
    let number = g.T.IndexStorage.number in
    map (λ p. number p.0) l.productions.items ++ ends_among l.visits ≡ order (tree_of number l.self)

abbrev pub decreases-loop-visits : goal.decreases-loop-visits
decreases-loop-visits g l = length l.visits
