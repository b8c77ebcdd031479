use Rattle.lrpager.proofs.KeptStates.{kept_outline}
use Rattle.lrpager.proofs.pager.outline.Goals as goal

pub returns-clause-merged : goal.returns-clause-merged
returns-clause-merged g c =
    let (h, merged, kept_is) = c.in_ok-graph.ensures.merged in
    (h, merged, rw kept_is (kept_outline c.args.grm.now h merged.graph.closures.fit_closed))
