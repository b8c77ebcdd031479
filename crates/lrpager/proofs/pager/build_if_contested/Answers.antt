use Rattle.std.proofs.Common.{◌≡◌, ◌∙◌, length, ap}
use Rattle.lrpager.proofs.KeptStates.{kept_all, kept_outline}
use Rattle.lrpager.proofs.SizeBounds.{chain_of_counts}
use Rattle.lrpager.proofs.pager.build_if_contested.Goals as goal

pub returns-then-is_contested-clause-merged : goal.returns-then-is_contested-clause-merged
returns-then-is_contested-clause-merged g c =
    let grm = c.args.grm.now in
    let e = c.in_ok-graph.ensures in
    let (h, merged, kept_is) = rw c.if-is_contested.true at e.merged in
    let same : c.in_ok-graph.graph ≡ h = kept_is ∙ kept_all grm h in
    (h, same, merged, rw same at (chain_of_counts grm _ _ _ _ e.counts))

pub returns-clause-merged : goal.returns-clause-merged
returns-clause-merged g c =
    let grm = c.args.grm.now in
    let e = c.in_ok-graph.ensures in
    let (h, merged, kept_is) = rw c.if-is_contested.false at e.merged in
    let outline = kept_outline grm h merged.graph.closures.fit_closed in
    let many : length c.in_ok-graph.graph ≡ length h = ap length kept_is ∙ outline.length_is in
    (h, rw kept_is outline, merged, rw many at (chain_of_counts grm _ _ _ _ e.counts))
