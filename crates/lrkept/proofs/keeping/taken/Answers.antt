-- by the move
use Rattle.lrlosses.specs.Losses as loss
use Rattle.lrkept.proofs.keeping.taken.Goals as goal

pub returns-in-Shift : goal.returns-in-Shift
returns-in-Shift c = rw c.in-Shift.is loss.Takes.shift

pub returns-in-Reduce : goal.returns-in-Reduce
returns-in-Reduce c = rw c.in-Reduce.is loss.Takes.reduce
