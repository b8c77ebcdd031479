-- those so far are left as they should
use Rattle.std.proofs.Common.{take}
use Rattle.lrkept.proofs.Peeled.{AreLeftOf}
use Rattle.lrkept.proofs.peeling.left_of.Given as goal

abbrev pub invariant-loop-number : goal.invariant-loop-number
invariant-loop-number l = AreLeftOf l.pairs l.numbers (take l.number-index l.numbers) l.left.items
