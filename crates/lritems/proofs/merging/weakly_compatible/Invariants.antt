use Rattle.std.proofs.Common.{ℕ, ◌<◌}
use Rattle.lritems.specs.Gotos.{items_in}
use Rattle.lritems.specs.Merging.{PassesWithLater}
use Rattle.lritems.proofs.merging.weakly_compatible.Given as goal

abbrev pub invariant-loop-i : goal.invariant-loop-i
invariant-loop-i g l = (k : ℕ) → k < l.i → PassesWithLater l.a (items_in g.T.IndexStorage.number l.b) k
