use Rattle.std.proofs.Common.{◌∙◌}
use Rattle.lrpager.proofs.KeptStates.{kept_all}
use Rattle.lrpager.proofs.pager.build.Goals as goal

pub returns-clause-merged : goal.returns-clause-merged
returns-clause-merged g c =
    let (h, merged, kept_is) = c.in_ok-graph.ensures.merged in rw (kept_is ∙ kept_all c.args.grm.now h) merged
