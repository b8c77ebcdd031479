use Rattle.std.proofs.Common.{refl}
use Rattle.lrlosses.proofs.WalkedSteps.{has_begun}
use Rattle.lrlosses.proofs.walks.Walk.new.Goals as goal

pub returns : goal.returns
returns g c = λ m text.
    has_begun g.T.IndexStorage.number m c.args.table.now text _ c.start_state.result (rw c.new-stack.ensures.items at c.in_ok-push.ensures.items) refl c.start_state.ensures.start
