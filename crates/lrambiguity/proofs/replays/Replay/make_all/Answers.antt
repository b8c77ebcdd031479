use Rattle.std.proofs.Common.{◌≡◌, ◌+◌, ◌++◌, take, drop, arith}
use Rattle.std.proofs.lemmas.List.{take_all}
use Rattle.lrtable.specs.RunAnswers.{text_of}
use Rattle.lrconflicts.specs.StoredMoves.{moves_stored}
use Rattle.lrambiguity.proofs.ReplaySteps.{makes_more, some_more, moves_split}
use Rattle.lrambiguity.proofs.replays.Replay.make_all.Goals as goal

pub make-requires : goal.make-requires
make-requires g c =
    let number = g.T.IndexStorage.number in
    let made = moves_stored number (take c.loop-action.action-index c.args.moves.now) in
    some_more number c.args.grm.now (text_of number c.args.text.now) made c.args.self.now c.loop-action.self c.loop-action.invariant c.requires

pub loop-action-preserved : goal.loop-action-preserved
loop-action-preserved g c =
    let number = g.T.IndexStorage.number in
    makes_more number c.args.grm.now (text_of number c.args.text.now) c.args.moves.now c.loop-action.action-index c.action-item.result c.args.self.now c.loop-action.self c.make.new.self
    c.loop-action-test.true c.action-item.is c.loop-action.invariant (c.in_ok-make.ensures.made c.if-not-branch.false)

pub returns-clause-made : goal.returns-clause-made
returns-clause-made g c = λ _.
    let number = g.T.IndexStorage.number in
    let moves = c.args.moves.now in
    let all : take c.loop-action.action-index moves ≡ moves = take_all c.loop-action.action-index moves (omega arith) in
    rw all at c.loop-action.invariant

pub returns-then-not-branch-clause-nowhere : goal.returns-then-not-branch-clause-nowhere
returns-then-not-branch-clause-nowhere g c = λ _ ms rest made t.
    let number = g.T.IndexStorage.number in
    let moves = c.args.moves.now in
    let i = c.loop-action.action-index in
    let split = moves_split number ms rest moves i c.action-item.result c.loop-action-test.true c.action-item.is in
    rw split
    (c.in_ok-make.ensures.nowhere c.if-not-branch.true (ms ++ moves_stored number (take i moves)) (moves_stored number (drop (i + 1) moves) ++ rest)
    (c.loop-action.invariant ms made) t)
