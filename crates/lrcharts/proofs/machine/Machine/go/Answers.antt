use Rattle.std.proofs.Common.{sym, ap, ◌∙◌}
use Rattle.lrrows.specs.StoredActions.{stored_action}
use Rattle.lrgrammar.specs.Symbols.{number_of}
use Rattle.lrcharts.proofs.MachineInTurn.{has_shifted, has_reduced}
use Rattle.lrcharts.proofs.machine.Machine.go.Goals as goal

pub returns-in_ok-is_made-in-Shift : goal.returns-in_ok-is_made-in-Shift
returns-in_ok-is_made-in-Shift c = λ is n cell come.
    let shifts = sym cell ∙ ap (stored_action number_of) c.in-Shift.is in
    has_shifted c.args.grm.now c.args.table.now c.args.text.now n c.args.self.now come c.shift.new.self c.in-Shift.state shifts
    (c.in_ok-is_made-in-Shift.ensures.stack is) (c.in_ok-is_made-in-Shift.ensures.used is)

pub returns-in_ok-is_made-in-Reduce : goal.returns-in_ok-is_made-in-Reduce
returns-in_ok-is_made-in-Reduce c = λ is n cell come.
    let reduces = sym cell ∙ ap (stored_action number_of) c.in-Reduce.is in
    has_reduced c.args.grm.now c.args.table.now c.args.text.now n c.args.self.now come c.reduce.new.self c.in-Reduce.production reduces
    (c.in_ok-is_made-in-Reduce.ensures.step is c.args.text.now) (c.in_ok-is_made-in-Reduce.ensures.deep is)
