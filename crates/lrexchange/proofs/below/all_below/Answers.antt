-- a turn for each step
use Rattle.std.proofs.Common.{[], refl, ap}
use Rattle.lrdecided.proofs.CollectedInTurn.{added}
use Rattle.lrexchange.specs.StoredPositions.{symbols_of, belows_of}
use Rattle.lrexchange.proofs.BelowStates.{below_of, pair, step_so, begin_below, next_below}
use Rattle.lrexchange.proofs.below.all_below.Goals as goal

pub loop-init : goal.loop-init
loop-init c =
    let s = c.args.state.0 in
    begin_below c.args.graph.now s (belows_of c.push.new.self.items)
    (added below_of c.new-belows.result.items c.push.new.self.items _ c.in_ok-push.ensures.items (pair s [])
    (step_so s s (symbols_of c.new.result.items) [] refl (ap symbols_of c.new.ensures.items)))

pub loop-preserved : goal.loop-preserved
loop-preserved c =
    next_below c.args.graph.now c.args.state.0 (belows_of c.loop.belows.items) (belows_of c.in-Some.steps.items) c.loop.invariant
    (rw c.as_slice.ensures.value at (rw c.in-Some.is at c.in_ok-steps.ensures))
