use Rattle.std.proofs.Common.{◌+◌, refl, sym, ap, ◌∙◌, arith}
use Rattle.std.proofs.lemmas.Result.{IfOk-weaker}
use Rattle.lrrows.specs.StoredActions.{stored_action}
use Rattle.lrlosses.proofs.WalkedSteps.{token_left, reduction_there, has_shifted, has_reduced}
use Rattle.lrlosses.proofs.walks.Walk.go.Goals as goal

-- the end token is never shifted
pub prove-unreachable-requires : goal.prove-unreachable-requires
prove-unreachable-requires g c =
    let number = g.T.IndexStorage.number in
    let cell = sym c.requires.cell ∙ ap (stored_action number) c.in-Shift.is in
    let there = token_left number c.args.grm.now c.args.table.now c.args.text.now c.requires.come.1 c.in_order.ensures.shape c.requires.table_for c.requires.named
    (number c.in-Shift.stidx.0) cell in
    omega (arith, there, c.if-prove.true)

pub reduce-requires : goal.reduce-requires
reduce-requires g c =
    let number = g.T.IndexStorage.number in
    let cell = sym c.requires.cell ∙ ap (stored_action number) c.in-Reduce.is in
    reduction_there number c.args.grm.now c.args.table.now c.args.text.now c.requires.come.1 c.in_order.ensures.shape c.requires.table_for c.requires.named
    (number c.in-Reduce.pidx.0) cell

pub returns-in_ok-push-in-Shift : goal.returns-in_ok-push-in-Shift
returns-in_ok-push-in-Shift g c = λ _ n come.
    let number = g.T.IndexStorage.number in
    let cell = sym c.requires.cell ∙ ap (stored_action number) c.in-Shift.is in
    has_shifted number c.args.grm.now c.args.table.now c.args.text.now come (record { stack = c.push.new.self; used = c.args.self.now.used + 1 }) c.in-Shift.stidx cell (omega (arith, c.if-prove.false)) c.in_ok-push-in-Shift.ensures.items refl

pub returns-in-Reduce : goal.returns-in-Reduce
returns-in-Reduce g c =
    let number = g.T.IndexStorage.number in
    let cell = sym c.requires.cell ∙ ap (stored_action number) c.in-Reduce.is in
    IfOk-weaker c.reduce.result _ _
    (λ _ made. λ _ n come. has_reduced number c.args.grm.now c.args.table.now c.args.text.now come c.reduce.new.self c.in-Reduce.pidx cell (made c.args.text.now) c.reduce.ensures.used)
    c.reduce.ensures.step
