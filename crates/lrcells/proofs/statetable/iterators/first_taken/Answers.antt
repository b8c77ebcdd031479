use Rattle.std.proofs.Common.{refl, sym, ◌∙◌}
use Rattle.lrcells.proofs.TokensTaken.{token_passed, token_found, tokens_ended}
use Rattle.lrcells.proofs.statetable.iterators.first_taken.Goals as goal

pub loop-token-init : goal.loop-token-init
loop-token-init g c = refl

pub returns-then-takes : goal.returns-then-takes
returns-then-takes g c =
    let found = token_found c.args.actions.now c.args.row c.args.shifts_only c.loop-token.token c.args.end c.loop-token-test.true (sym c.takes.ensures ∙ c.if-takes.true) in
    (c.loop-token-test.true, c.loop-token.invariant ∙ found)

pub loop-token-preserved : goal.loop-token-preserved
loop-token-preserved g c =
    c.loop-token.invariant
    ∙ token_passed c.args.actions.now c.args.row c.args.shifts_only c.loop-token.token c.args.end c.loop-token-test.true (sym c.takes.ensures ∙ c.if-takes.false)

pub returns : goal.returns
returns g c = c.loop-token.invariant ∙ tokens_ended c.args.actions.now c.args.row c.args.shifts_only c.loop-token.token c.args.end c.loop-token-test.false
