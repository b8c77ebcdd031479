-- the pairs of the productions so far are listed
use Rattle.lrkept.proofs.AlonePairs.{ArePairsSoFar}
use Rattle.lrkept.proofs.alone.alone_pairs.Given as goal

abbrev pub invariant-loop-number : goal.invariant-loop-number
invariant-loop-number l = ArePairsSoFar l.grm l.number l.pairs.items
