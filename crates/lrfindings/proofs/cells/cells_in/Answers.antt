use Rattle.lrfindings.proofs.CellsInTurn.{next_is_below, given_before_next, all_given}
use Rattle.lrfindings.proofs.cells.cells_in.Goals as goal

pub add_state-requires-clause-below : goal.add_state-requires-clause-below
add_state-requires-clause-below c = next_is_below _ _ _ _ _ _ c.in-Some.ensures.steps c.loop-state.invariant.left

pub loop-state-preserved : goal.loop-state-preserved
loop-state-preserved c = record {
  left = given_before_next _ _ _ _ _ _ _ c.in-Some.ensures.steps c.in_ok-add_state.ensures.left c.loop-state.invariant.left;
  resolved = given_before_next _ _ _ _ _ _ _ c.in-Some.ensures.steps c.in_ok-add_state.ensures.resolved c.loop-state.invariant.resolved;
  reduced = given_before_next _ _ _ _ _ _ _ c.in-Some.ensures.steps c.in_ok-add_state.ensures.reduced c.loop-state.invariant.reduced;
}

pub returns-clause-left : goal.returns-clause-left
returns-clause-left c = all_given _ _ _ _ c.in-None.ensures.steps.0 c.loop-state.invariant.left

pub returns-clause-resolved : goal.returns-clause-resolved
returns-clause-resolved c = all_given _ _ _ _ c.in-None.ensures.steps.0 c.loop-state.invariant.resolved

pub returns-clause-reduced : goal.returns-clause-reduced
returns-clause-reduced c = all_given _ _ _ _ c.in-None.ensures.steps.0 c.loop-state.invariant.reduced
