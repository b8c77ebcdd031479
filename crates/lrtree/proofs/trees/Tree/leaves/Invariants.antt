use Rattle.std.proofs.Common.{◌≡◌, ◌++◌, length}
use Rattle.lrspec.specs.grammars.Trees.{leaves}
use Rattle.lrtable.specs.RunAnswers.{text_of}
use Rattle.lrtree.specs.StoredTrees.{tree_of}
use Rattle.lrtree.proofs.VisitFacts.{tokens_among}
use Rattle.lrtree.proofs.trees.Tree.leaves.Given as goal

abbrev pub invariant-loop-visits : goal.invariant-loop-visits
invariant-loop-visits g l =
    let number = g.T.IndexStorage.number in
    text_of number l.tokens.items ++ tokens_among l.visits ≡ leaves (tree_of number l.self)

abbrev pub decreases-loop-visits : goal.decreases-loop-visits
decreases-loop-visits g l = length l.visits
