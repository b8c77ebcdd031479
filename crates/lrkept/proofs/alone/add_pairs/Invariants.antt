-- the rules that stand alone in the places so far are added
use Rattle.lrkept.proofs.AlonePairs.{AreAdded}
use Rattle.lrkept.proofs.alone.add_pairs.Given as goal

abbrev pub invariant-loop-place : goal.invariant-loop-place
invariant-loop-place l = AreAdded l.grm l.fn.pidx.0 l.rule l.place l.fn.pairs.items l.pairs.items
