use Rattle.std.proofs.Common.{ap, ◌∙◌}
use Rattle.lrspec.specs.tables.Table.{goto_of}
use Rattle.lrflat.specs.Flat.{goto_number}
use Rattle.lrflat.proofs.RowsInTurn.{one_more}
use Rattle.lrflat.proofs.flat.push_gotos.Goals as goal

pub loop-rule-preserved : goal.loop-rule-preserved
loop-rule-preserved g c =
    let number = g.T.IndexStorage.number in
    let b = c.args.table.now in
    let s = number c.args.state.0 in
    let at = c.in-Some.ensures.1 in
    let same = c.in_ok-number_of_goto.ensures ∙ ap goto_number (c.goto.ensures.edge ∙ ap (goto_of b s) at) in
    one_more (λ r. goto_number (goto_of b s r)) c.loop-rule.rule c.args.flat.now.items c.loop-rule.flat.items c.push.new.flat.items _
    c.loop-rule.invariant c.in_ok-push.ensures same
