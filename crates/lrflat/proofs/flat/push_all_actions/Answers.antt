use Rattle.std.proofs.Common.{ap}
use Rattle.lrflat.specs.Flat.{action_row}
use Rattle.lrflat.proofs.RowsInTurn.{row_more}
use Rattle.lrflat.proofs.flat.push_all_actions.Goals as goal

pub loop-state-preserved : goal.loop-state-preserved
loop-state-preserved g c =
    let row = action_row c.args.table.now c.args.tokens in
    row_more row c.loop-state.state c.args.flat.now.items c.loop-state.flat.items c.push_actions.new.flat.items _
    c.loop-state.invariant c.in_ok-push_actions.ensures (ap row c.in-Some.ensures.1)
