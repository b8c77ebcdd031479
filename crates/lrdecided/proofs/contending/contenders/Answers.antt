-- with the shift or without it
use Rattle.std.proofs.Common.{refl}
use Rattle.lrconflicts.specs.StoredMoves.{move_of, moves_stored}
use Rattle.lrgrammar.specs.Symbols.{number_of}
use Rattle.lrdecided.specs.Contenders.{completes_of}
use Rattle.lrdecided.proofs.CollectedInTurn.{kept, added}
use Rattle.lrdecided.proofs.FoundContenders.{all_without_shift, all_with_shift}
use Rattle.lrdecided.proofs.contending.contenders.Goals as goal

pub returns-then-not-shifts : goal.returns-then-not-shifts
returns-then-not-shifts c =
    all_without_shift c.args.grm.now c.args.graph.now c.args.state.0 c.args.token.0 (completes_of c.args.completes.now) c.requires
    (moves_stored number_of c.in_ok-moves.moves.items) c.in_ok-moves.ensures c.shifts.result c.shifts.ensures c.if-not-shifts.true

pub returns : goal.returns
returns c =
    let push = c.in_ok-push.ensures.items in
    all_with_shift c.args.grm.now c.args.graph.now c.args.state.0 c.args.token.0 (completes_of c.args.completes.now) c.requires
    (moves_stored number_of c.in_ok-moves.moves.items) _ c.in_ok-moves.ensures (kept (move_of number_of) _ _ _ push) (added (move_of number_of) _ _ _ push _ refl)
