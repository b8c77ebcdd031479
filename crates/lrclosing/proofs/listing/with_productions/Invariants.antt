use Rattle.std.proofs.Common.{ℕ, ◌<◌, ◌≤◌, map, length}
use Rattle.lrclosing.specs.Listing.{IsIn}
use Rattle.lrclosing.proofs.ProductionsOfRule.{IsAmongFirst}
use Rattle.lrclosing.proofs.listing.with_productions.Given as goal

abbrev pub invariant-loop-pidx : goal.invariant-loop-pidx
invariant-loop-pidx g l = record {
  has : (q : ℕ) → IsAmongFirst l.pidx-index (map (λ p. g.T.IndexStorage.number p.0) l.pidx-items) q → IsIn l.found q;
  kept : (q : ℕ) → IsIn l.fn.range q → IsIn l.found q;
  first : l.found.0 ≤ l.fn.range.0;
  last : l.fn.range.1 < length l.grm.productions → l.found.1 < length l.grm.productions;
}
