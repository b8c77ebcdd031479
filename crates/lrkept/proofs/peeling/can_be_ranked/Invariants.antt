-- what is taken away is ranked, and each time fewer are left
use Rattle.std.proofs.Common.{length}
use Rattle.lrkept.proofs.Peeled.{IsPeeled}
use Rattle.lrkept.proofs.peeling.can_be_ranked.Given as goal

abbrev pub invariant-loop-alloc : goal.invariant-loop-alloc
invariant-loop-alloc l = IsPeeled l.pairs l.numbers.items

abbrev pub decreases-loop-alloc : goal.decreases-loop-alloc
decreases-loop-alloc l = length l.numbers.items
