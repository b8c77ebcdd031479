use Rattle.std.proofs.Common.{ℕ, ◌<◌}
use Rattle.lritems.specs.Gotos.{items_in}
use Rattle.lritems.specs.Merging.{PassAt}
use Rattle.lritems.proofs.merging.passes_with_later.Given as goal

abbrev pub invariant-loop-j : goal.invariant-loop-j
invariant-loop-j g l = (k : ℕ) → k < l.j → l.fn.place < k → PassAt l.a (items_in g.T.IndexStorage.number l.b) l.fn.place k
