use Rattle.std.proofs.Common.{◌≡◌, map, drop}
use Rattle.lrrows.specs.StateRows.{first_at}
use Rattle.lrrows.proofs.completes.least_at.Given as goal

abbrev pub invariant-loop-pidx : goal.invariant-loop-pidx
invariant-loop-pidx g l =
    let shown = map (λ c. (g.T.IndexStorage.number c.0.0, c.1.now)) in
    first_at (shown (drop l.pidx-index l.completes)) l.token ≡ first_at (shown l.completes) l.token
