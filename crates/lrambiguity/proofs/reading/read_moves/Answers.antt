use Rattle.std.proofs.Common.{[], append-nil}
use Rattle.std.proofs.lemmas.Option.{IfSome_then}
use Rattle.lrtable.specs.RunAnswers.{text_of}
use Rattle.lrconflicts.specs.StoredMoves.{moves_stored}
use Rattle.lrambiguity.specs.StoredReplays.{HasMade}
use Rattle.lrambiguity.proofs.ReplaySteps.{no_tree_made}
use Rattle.lrambiguity.proofs.reading.read_moves.Given as given
use Rattle.lrambiguity.proofs.reading.read_moves.Goals as goal
use Rattle.lrambiguity.proofs.reading.read_moves.Goals.{In-Ok-true}

pub make_all-requires : goal.make_all-requires
make_all-requires g c = ([], c.new-replay.ensures c.args.grm.now (text_of g.T.IndexStorage.number c.args.text.now))

-- the moves were made
made :
    (g : given.Over) (c : In-Ok-true g)
    → HasMade g.T.IndexStorage.number c.args.grm.now (text_of g.T.IndexStorage.number c.args.text.now)
    (moves_stored g.T.IndexStorage.number c.args.moves.now) c.make_all.new.self
made g c = c.in-Ok-true.ensures.made c.in-Ok-true.field-0-test [] (c.new-replay.ensures c.args.grm.now (text_of g.T.IndexStorage.number c.args.text.now))

pub returns-in-Ok-true-clause-tree : goal.returns-in-Ok-true-clause-tree
returns-in-Ok-true-clause-tree g c =
    let ms = moves_stored g.T.IndexStorage.number c.args.moves.now in
    let all = made g (goal.at.returns-in-Ok-true-clause-tree g c).In-Ok-true in
    IfSome_then c.into_tree.result c.into_tree.ensures.tree (λ tree is. (is ms all).of_start)

pub returns-in-Ok-true-clause-text : goal.returns-in-Ok-true-clause-text
returns-in-Ok-true-clause-text g c =
    let ms = moves_stored g.T.IndexStorage.number c.args.moves.now in
    let all = made g (goal.at.returns-in-Ok-true-clause-text g c).In-Ok-true in
    IfSome_then c.into_tree.result c.into_tree.ensures.tree (λ tree is. (is ms all).leaves_are)

pub returns-in-Ok-true-clause-moves : goal.returns-in-Ok-true-clause-moves
returns-in-Ok-true-clause-moves g c =
    let ms = moves_stored g.T.IndexStorage.number c.args.moves.now in
    let all = made g (goal.at.returns-in-Ok-true-clause-moves g c).In-Ok-true in
    IfSome_then c.into_tree.result c.into_tree.ensures.tree (λ tree is. (is ms all).moves_are)

pub returns-in-Ok-true-clause-none : goal.returns-in-Ok-true-clause-none
returns-in-Ok-true-clause-none g c =
    let number = g.T.IndexStorage.number in
    let all = made g (goal.at.returns-in-Ok-true-clause-none g c).In-Ok-true in
    no_tree_made number c.args.grm.now (text_of number c.args.text.now) c.make_all.new.self (moves_stored number c.args.moves.now) c.into_tree.result
    all c.into_tree.ensures.none

pub returns-in-Ok-false-clause-none : goal.returns-in-Ok-false-clause-none
returns-in-Ok-false-clause-none g c = λ t.
    let number = g.T.IndexStorage.number in
    let start = c.new-replay.ensures c.args.grm.now (text_of number c.args.text.now) in
    rw append-nil at (c.in-Ok-false.ensures.nowhere c.in-Ok-false.field-0-test [] [] start t)
