use Rattle.std.proofs.Common.{◌+◌, map}
use Rattle.lrclosing.specs.Visits.{AreMarked}
use Rattle.lrclosing.proofs.ProductionsOfRule.{IsAmongFirst}
use Rattle.lrclosing.proofs.listing.mark_from.Given as goal

abbrev pub invariant-loop-pidx : goal.invariant-loop-pidx
invariant-loop-pidx g l = AreMarked (λ k. IsAmongFirst l.pidx-index (map (λ p. g.T.IndexStorage.number p.0) l.pidx-items) (l.from + k)) l.fn.bits l.bits
