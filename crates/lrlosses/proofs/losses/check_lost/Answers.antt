use Rattle.lrtable.specs.RunAnswers.{text_of}
use Rattle.lrtree.specs.StoredTrees.{tree_of}
use Rattle.lrconflicts.specs.Moves.{IsTreeBy}
use Rattle.lrconflicts.specs.StoredMoves.{moves_stored}
use Rattle.lrambiguity.proofs.TwoTrees.{tree_of_text}
use Rattle.lrlosses.specs.StoredLosses.{place_of}
use Rattle.lrlosses.proofs.Rejections.{rejected_there, never_accepted}
use Rattle.lrlosses.proofs.Sentences.{sentence_named}
use Rattle.lrlosses.proofs.WholeTrees.{along_to_the_end}
use Rattle.lrlosses.proofs.losses.check_lost.Given as given
use Rattle.lrlosses.proofs.losses.check_lost.Goals as goal
use Rattle.lrlosses.proofs.losses.check_lost.Goals.{In-Some}

-- the tree that was read
read :
    (g : given.Over) (c : In-Some g)
    → IsTreeBy c.args.grm.now (moves_stored g.T.IndexStorage.number c.args.moves.now) (text_of g.T.IndexStorage.number c.args.text.now)
    (tree_of g.T.IndexStorage.number c.in-Some.tree)
read g c = record {
  of_start = rw c.in-Some.is at c.in_ok-tree.ensures.tree;
  leaves_are = rw c.in-Some.is at c.in_ok-tree.ensures.text;
  moves_are = rw c.in-Some.is at c.in_ok-tree.ensures.moves;
}

pub find_parting-requires-clause-named : goal.find_parting-requires-clause-named
find_parting-requires-clause-named g c =
    sentence_named c.in_order.ensures.shape (tree_of_text (read g (goal.at.find_parting-requires-clause-named g c).In-Some)).0

pub returns-in-Ok-Some-clause-sentence : goal.returns-in-Ok-Some-clause-sentence
returns-in-Ok-Some-clause-sentence g c = tree_of_text (read g (goal.at.returns-in-Ok-Some-clause-sentence g c).In-Some)

pub returns-in-Ok-Some-clause-moves : goal.returns-in-Ok-Some-clause-moves
returns-in-Ok-Some-clause-moves g c = (read g (goal.at.returns-in-Ok-Some-clause-moves g c).In-Some).moves_are

pub returns-in-Ok-Some-clause-lost : goal.returns-in-Ok-Some-clause-lost
returns-in-Ok-Some-clause-lost g c = λ _. record {
  sentence = (tree_of_text (read g (goal.at.returns-in-Ok-Some-clause-lost g c).In-Some)).0;
  rejected = rejected_there c.args.grm.now c.args.table.now (text_of g.T.IndexStorage.number c.args.text.now)
      (place_of g.T.IndexStorage.number c.in-Ok-Some.rejected) (rw c.in-Ok-Some.field-0-is at c.in-Ok-Some.ensures.stops);
}

pub returns-in-Ok-Some-clause-never_accepted : goal.returns-in-Ok-Some-clause-never_accepted
returns-in-Ok-Some-clause-never_accepted g c = λ is.
    never_accepted c.args.grm.now c.args.table.now (text_of g.T.IndexStorage.number c.args.text.now) (returns-in-Ok-Some-clause-lost g c is).rejected

pub returns-in-Ok-None-clause-none : goal.returns-in-Ok-None-clause-none
returns-in-Ok-None-clause-none g c = λ t tree rejected.
    let number = g.T.IndexStorage.number in
    let grm = c.args.grm.now in
    let text = text_of number c.args.text.now in
    let ms = moves_stored number c.args.moves.now in
    let along = (rw c.in-Ok-None.field-0-is at c.in-Ok-None.ensures.none) rejected in
    along_to_the_end grm c.args.table.now text ms t c.in_order.ensures.shape c.requires.table_for
    (sentence_named c.in_order.ensures.shape (tree_of_text tree).0) tree along c.args.steps rejected
