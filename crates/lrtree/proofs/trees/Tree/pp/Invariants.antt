use Rattle.std.proofs.Common.{◌≡◌, ◌++◌, length}
use Rattle.std.specs.List.{All}
use Rattle.std.specs.String.{string_bytes}
use Rattle.lrspec.specs.texts.TreeTexts.{tree_text}
use Rattle.lrtree.specs.Visits.{IsVisitOf, visits_text}
use Rattle.lrtree.specs.StoredTrees.{tree_of}
use Rattle.lrtree.proofs.trees.Tree.pp.Given as goal

abbrev pub invariant-loop-visits : goal.invariant-loop-visits
invariant-loop-visits g l = record {
  text : string_bytes l.text ++ visits_text l.grm l.is_first l.visits ≡ tree_text l.grm (tree_of g.T.IndexStorage.number l.self);
  visits : All (IsVisitOf l.grm) l.visits;
}

abbrev pub decreases-loop-visits : goal.decreases-loop-visits
decreases-loop-visits g l = length l.visits
