use Rattle.lrtable.specs.RunAnswers.{text_of}
use Rattle.lrconflicts.specs.StoredMoves.{moves_stored}
use Rattle.lrlosses.specs.Losses.{GoesAlong}
use Rattle.lrlosses.specs.Walks.{HasCome}
use Rattle.lrlosses.proofs.walks.Walk.follow.Given as goal

-- the moves so far led to where it is
abbrev pub invariant-loop-made : goal.invariant-loop-made
invariant-loop-made g l =
    let number = g.T.IndexStorage.number in record {
      come : HasCome number l.grm l.table l.text l.made l.self;
      along : GoesAlong l.grm l.table (text_of number l.text) (moves_stored number l.moves) l.made;
    }
