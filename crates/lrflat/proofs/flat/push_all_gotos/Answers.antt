use Rattle.std.proofs.Common.{ap}
use Rattle.lrflat.specs.Flat.{goto_row}
use Rattle.lrflat.proofs.RowsInTurn.{row_more}
use Rattle.lrflat.proofs.flat.push_all_gotos.Goals as goal

pub loop-state-preserved : goal.loop-state-preserved
loop-state-preserved g c =
    let row = goto_row c.args.table.now c.args.rules in
    row_more row c.loop-state.state c.args.flat.now.items c.loop-state.flat.items c.push_gotos.new.flat.items _
    c.loop-state.invariant c.in_ok-push_gotos.ensures (ap row c.in-Some.ensures.1)
