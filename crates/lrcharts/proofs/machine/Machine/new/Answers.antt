use Rattle.std.proofs.Common.{refl}
use Rattle.lrcharts.proofs.MachineInTurn.{has_begun}
use Rattle.lrcharts.proofs.machine.Machine.new.Goals as goal

pub returns : goal.returns
returns c = λ g text.
    has_begun g c.args.table.now text _ c.start_state.result (rw c.new-stack.ensures.items at c.in_ok-push.ensures.items) refl c.start_state.ensures.start
