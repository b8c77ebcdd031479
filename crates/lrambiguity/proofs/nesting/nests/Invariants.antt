use Rattle.lrambiguity.proofs.NestingSteps.{Walked}
use Rattle.lrambiguity.proofs.nesting.nests.Given as goal

abbrev pub invariant-loop-item : goal.invariant-loop-item
invariant-loop-item g l = Walked g.T.IndexStorage.number l.grm l.fn.list l.items l.item-index l.left l.wanted
