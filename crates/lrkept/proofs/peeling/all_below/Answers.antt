-- a turn for each number
use Rattle.lrkept.proofs.Peeled.{listed_more}
use Rattle.lrkept.proofs.peeling.all_below.Goals as goal

pub loop-number-preserved : goal.loop-number-preserved
loop-number-preserved c = listed_more c.loop-number.numbers.items c.push.new.self.items c.loop-number.number c.in_ok-push.ensures.items c.loop-number.invariant
