use Rattle.lrambiguity.proofs.TwoTrees.{tree_of_text, trees_differ, lists_conflicts}
use Rattle.lrgrammar.specs.Symbols.{number_of}
use Rattle.lrreasons.proofs.ProvedOnes.{some_follows, follows_of_some, is_ambiguous}
use Rattle.lrreasons.proofs.reasons.Reasons.ambiguity.Goals as goal

pub returns-clause-one : goal.returns-clause-one
returns-clause-one c = rw (← c.self.view_is) (some_follows c.in_ok-proved.proved (λ a p. tree_of_text p.trees.first) c.in_ok-proved.ensures)

pub returns-clause-other : goal.returns-clause-other
returns-clause-other c = rw (← c.self.view_is) (some_follows c.in_ok-proved.proved (λ a p. tree_of_text p.trees.second) c.in_ok-proved.ensures)

pub returns-clause-differ : goal.returns-clause-differ
returns-clause-differ c =
    some_follows c.in_ok-proved.proved
    (λ a p. trees_differ number_of (λ m n same. same) c.self.inside.grm.now
    a.ambiguity.text.items a.ambiguity.before.items a.ambiguity.one.items a.ambiguity.other.items
    a.ambiguity.one_tree a.ambiguity.other_tree p.trees)
    c.in_ok-proved.ensures

pub returns-clause-ambiguous : goal.returns-clause-ambiguous
returns-clause-ambiguous c =
    rw (← c.self.view_is)
    (follows_of_some c.in_ok-proved.proved
    (is_ambiguous c.self.inside.grm.now c.self.inside.graph.now c.args.conflict)
    c.in_ok-proved.ensures)

pub returns-clause-conflicts : goal.returns-clause-conflicts
returns-clause-conflicts c =
    rw (← c.self.view_is)
    (follows_of_some c.in_ok-proved.proved
    (λ a p. lists_conflicts c.in_order.ensures.shape
    (is_ambiguous c.self.inside.grm.now c.self.inside.graph.now c.args.conflict a p))
    c.in_ok-proved.ensures)
