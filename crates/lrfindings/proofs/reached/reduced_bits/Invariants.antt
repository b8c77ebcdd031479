-- the bits are those of the pairs so far
use Rattle.lrfindings.proofs.ReducedPairs.{AreBits}
use Rattle.lrfindings.proofs.reached.reduced_bits.Given as goal

abbrev pub invariant-loop-one : goal.invariant-loop-one
invariant-loop-one l = AreBits l.reduced l.grm.productions l.one-index l.bits
