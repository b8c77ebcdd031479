use Rattle.std.proofs.Common.{◌<◌, length, map, drop, arith}
use Rattle.std.proofs.lemmas.List.{length-reverse, length-map, length-drop}
use Rattle.lrspec.specs.tables.Table as table
use Rattle.lrspec.specs.tables.Machine.{top, next_token}
use Rattle.lrtable.specs.RunAnswers.{text_of}
use Rattle.lrtable.specs.WorkingMachine.{config_of}
use Rattle.lrtable.proofs.ReachedConfigs.{can_reduce, can_shift, stack_there}
use Rattle.lrtable.proofs.MachineSteps.{cell_here, step_shifts}
use Rattle.lrtable.proofs.machine.running.Machine.step.Goals as goal

pub top-requires : goal.top-requires
top-requires g c =
    let number = g.T.IndexStorage.number in
    let text = text_of number c.args.text.now in
    let states = c.args.self.now.stack.items in
    let there =
    stack_there c.args.grm.now c.args.table.now text (config_of number c.args.self.now c.args.text.now) c.in_order.ensures.shape c.requires.table_for
    c.requires.named c.requires.reached in
    omega (arith, there, length-reverse (map (λ s. number s.0) states), length-map states (λ s. number s.0))

-- a cell that shifts is not met at the end of the text
pub prove-unreachable-requires : goal.prove-unreachable-requires
prove-unreachable-requires g c =
    let number = g.T.IndexStorage.number in
    let text = text_of number c.args.text.now in
    let config = config_of number c.args.self.now c.args.text.now in
    let used = c.args.self.now.used in
    let cell =
    cell_here c.args.table.now (number c.top.result.0) (number c.next_token.result.0) (top config.stack) (next_token c.args.grm.now config.left)
    (table.Action.Shift (number c.in-Shift.stidx.0)) c.in-Shift.ensures.cell c.top.ensures c.next_token.ensures in
    let there : 0 < length (drop used text) =
    can_shift c.args.grm.now c.args.table.now text config (number c.in-Shift.stidx.0) c.in_order.ensures.shape c.requires.table_for c.requires.named
    c.requires.reached cell in
    omega (arith, there, length-drop used text, length-map c.args.text.now (λ t. number t.0), c.if-prove.true)

pub reduce-requires : goal.reduce-requires
reduce-requires g c =
    let number = g.T.IndexStorage.number in
    let config = config_of number c.args.self.now c.args.text.now in
    let cell =
    cell_here c.args.table.now (number c.top.result.0) (number c.next_token.result.0) (top config.stack) (next_token c.args.grm.now config.left)
    (table.Action.Reduce (number c.in-Reduce.pidx.0)) c.in-Reduce.ensures.cell c.top.ensures c.next_token.ensures in
    can_reduce c.args.grm.now c.args.table.now (text_of number c.args.text.now) config (number c.in-Reduce.pidx.0) c.in_order.ensures.shape
    c.requires.table_for c.requires.named c.requires.reached cell

pub returns-in_ok-push-in-Shift : goal.returns-in_ok-push-in-Shift
returns-in_ok-push-in-Shift g c =
    let number = g.T.IndexStorage.number in
    let config = config_of number c.args.self.now c.args.text.now in
    let cell =
    cell_here c.args.table.now (number c.top.result.0) (number c.next_token.result.0) (top config.stack) (next_token c.args.grm.now config.left)
    (table.Action.Shift (number c.in-Shift.stidx.0)) c.in-Shift.ensures.cell c.top.ensures c.next_token.ensures in
    step_shifts c.args.grm.now c.args.table.now (λ s. number s.0) c.args.self.now.stack.items c.push.new.self.items c.in-Shift.stidx
    (text_of number c.args.text.now) config.reductions c.args.self.now.used cell c.in_ok-push-in-Shift.ensures.items
