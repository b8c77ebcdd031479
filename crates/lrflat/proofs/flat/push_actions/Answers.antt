use Rattle.std.proofs.Common.{ap, ◌∙◌}
use Rattle.lrspec.specs.tables.Table.{action_of}
use Rattle.lrflat.specs.Flat.{action_number}
use Rattle.lrflat.proofs.RowsInTurn.{one_more}
use Rattle.lrflat.proofs.flat.push_actions.Goals as goal

pub loop-token-preserved : goal.loop-token-preserved
loop-token-preserved g c =
    let number = g.T.IndexStorage.number in
    let b = c.args.table.now in
    let s = number c.args.state.0 in
    let at = c.in-Some.ensures.1 in
    let same = c.in_ok-number_of_action.ensures ∙ ap action_number (c.action.ensures.cell ∙ ap (action_of b s) at) in
    one_more (λ t. action_number (action_of b s t)) c.loop-token.token c.args.flat.now.items c.loop-token.flat.items c.push.new.flat.items _
    c.loop-token.invariant c.in_ok-push.ensures same
