use Rattle.std.proofs.Common.{arith}
use Rattle.std.proofs.lemmas.List.{length-map}
use Rattle.lrconflicts.specs.StoredMoves.{move_of}
use Rattle.lrlosses.proofs.losses.find_parting.Goals as goal

pub returns-in_default-clause-none : goal.returns-in_default-clause-none
returns-in_default-clause-none g c = λ _ i l.
    (rw c.in_default.is at c.in_ok-parting.ensures.along) i (omega (arith, l, length-map c.args.moves.now (move_of g.T.IndexStorage.number)))
