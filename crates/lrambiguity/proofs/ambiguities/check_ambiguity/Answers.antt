use Rattle.lrambiguity.proofs.TwoTrees.{tree_of_text, ambiguous, lists_conflicts, trees_differ}
use Rattle.lrambiguity.proofs.ambiguities.check_ambiguity.Goals as goal

pub returns-in-Some-clause-trees : goal.returns-in-Some-clause-trees
returns-in-Some-clause-trees g c =
    rw (c.deref.ensures.value, c.deref-2.ensures.value, c.deref-3.ensures.value, c.deref-4.ensures.value) at (rw c.in-Some.is at c.in_ok-one_tree.ensures.trees)

pub returns-in-Some-clause-one : goal.returns-in-Some-clause-one
returns-in-Some-clause-one g c = tree_of_text (returns-in-Some-clause-trees g c).first

pub returns-in-Some-clause-other : goal.returns-in-Some-clause-other
returns-in-Some-clause-other g c = tree_of_text (returns-in-Some-clause-trees g c).second

pub returns-in-Some-clause-differ : goal.returns-in-Some-clause-differ
returns-in-Some-clause-differ g c =
    trees_differ g.T.IndexStorage.number g.met.T.IndexStorage.injective c.args.grm.now c.args.text.items c.args.before.items c.args.one.items c.args.other.items
    c.in-Some.one_tree c.in-Some.other_tree (returns-in-Some-clause-trees g c)

pub returns-in-Some-clause-ambiguous : goal.returns-in-Some-clause-ambiguous
returns-in-Some-clause-ambiguous g c =
    λ _. ambiguous (returns-in-Some-clause-one g c) (returns-in-Some-clause-other g c) (returns-in-Some-clause-differ g c)

pub returns-in-Some-clause-conflicts : goal.returns-in-Some-clause-conflicts
returns-in-Some-clause-conflicts g c = λ is. lists_conflicts c.in_order.ensures.shape (returns-in-Some-clause-ambiguous g c is)

pub returns-in-None-clause-none : goal.returns-in-None-clause-none
returns-in-None-clause-none g c =
    rw (c.deref.ensures.value, c.deref-2.ensures.value, c.deref-3.ensures.value, c.deref-4.ensures.value) at (rw c.in-None.is at c.in_ok-one_tree.ensures.none)
