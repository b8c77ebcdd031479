use Rattle.std.proofs.Common.{take}
use Rattle.lrtable.specs.RunAnswers.{text_of}
use Rattle.lrconflicts.specs.StoredMoves.{moves_stored}
use Rattle.lrambiguity.specs.StoredReplays.{Makes}
use Rattle.lrambiguity.proofs.replays.Replay.make_all.Given as goal

abbrev pub invariant-loop-action : goal.invariant-loop-action
invariant-loop-action g l =
    let number = g.T.IndexStorage.number in
    Makes number l.grm (text_of number l.text) (moves_stored number (take l.action-index l.moves)) l.fn.self l.self
