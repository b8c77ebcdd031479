-- the needs that are listed so far close that of the production
use Rattle.std.proofs.Common.{drop}
use Rattle.std.specs.Prelude.{Contains}
use Rattle.lritems.specs.ItemsOf.{set_of}
use Rattle.lrsearches.specs.StoredPlaces.{needs_of}
use Rattle.lrsearches.specs.StoredUses.{keys_of}
use Rattle.lrsearches.proofs.ClosesInTurn.{AreClosing}
use Rattle.lrsearches.proofs.closes.closes_by_row.Given as goal

abbrev pub invariant-loop-key : goal.invariant-loop-key
invariant-loop-key g l =
    let number = g.T.IndexStorage.number in
    AreClosing l.grm (set_of number l.closed) (number l.token.0) (number l.fn.rule.0) (number l.fn.pidx.0)
    (needs_of number l.needs.items) (λ q d. Contains (keys_of number (drop l.key-index l.row)) (q, d))
