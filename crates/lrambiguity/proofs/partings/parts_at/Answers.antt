use Rattle.std.proofs.Common.{[], refl}
use Rattle.lrtable.specs.RunAnswers.{text_of}
use Rattle.lrtree.specs.StoredTrees.{tree_of, forest_of}
use Rattle.lrambiguity.specs.StoredReplays.{roots_of}
use Rattle.lrambiguity.proofs.Contests.{contend}
use Rattle.lrambiguity.proofs.partings.parts_at.Goals as goal

pub make_all-made-requires : goal.make_all-made-requires
make_all-made-requires g c = ([], c.new-replay.ensures c.args.grm.now (text_of g.T.IndexStorage.number c.deref-2.result.now))

pub returns-clause-parts : goal.returns-clause-parts
returns-clause-parts g c = λ is.
    let number = g.T.IndexStorage.number in
    let a = c.args.ambiguity.now in
    let replay = c.make_all-made.new.self in
    let text = text_of number a.text.items in
    let made = c.in_ok-made.ensures.made c.if-not-branch.false [] (c.new-replay.ensures c.args.grm.now (text_of number c.deref-2.result.now)) in
    record {
      used = replay.used;
      roots = roots_of number replay;
      trees = forest_of number replay.trees.items;
      reads = rw (c.deref-2.ensures.value, c.deref-3.ensures.value) at made;
      core = c.stands_at-stands.ensures.core is;
      next = rw c.deref-4.ensures.value at (c.stands_at-stands.ensures.token is);
      first = rw c.deref.ensures.value at (c.if-not-begins_with.ensures refl);
      second = rw c.deref-else-not-begins_with.ensures.value at (c.if-not-begins_with-2.ensures refl);
    }

pub returns-clause-contend : goal.returns-clause-contend
returns-clause-contend g c = λ is.
    let number = g.T.IndexStorage.number in
    let a = c.args.ambiguity.now in
    contend c.in_order.ensures.shape c.args.graph.now (number c.args.contest.state.0) (tree_of number a.one_tree) (tree_of number a.other_tree)
    (returns-clause-parts g c is) c.requires.ambiguity.first c.requires.ambiguity.second
