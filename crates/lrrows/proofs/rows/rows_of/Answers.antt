use Rattle.std.proofs.Common.{◌∙◌}
use Rattle.lrrows.proofs.StatesInTurn.{before_first, next_state, before_next, after_last}
use Rattle.lrrows.proofs.rows.rows_of.Goals as goal

pub loop-stidx-init : goal.loop-stidx-init
loop-stidx-init g c = record {
  rows = before_first _ _ _ _ _ (c.into_iter-stidx-iterator.ensures.into_iter_gives ∙ c.iter_stidxs-stidx-items.ensures) (c.new-rows.ensures.rows c.args.sg.now);
  zeros = c.new-rows.ensures.zeros;
}

pub push-requires-clause-below : goal.push-requires-clause-below
push-requires-clause-below g c = (next_state _ _ _ _ _ _ _ c.in-Some.ensures.steps c.loop-stidx.invariant.rows).0

pub push-requires-clause-rows : goal.push-requires-clause-rows
push-requires-clause-rows g c = (next_state _ _ _ _ _ _ _ c.in-Some.ensures.steps c.loop-stidx.invariant.rows).1

pub loop-stidx-preserved : goal.loop-stidx-preserved
loop-stidx-preserved g c = record {
  rows = before_next _ _ _ _ _ _ _ _ c.in-Some.ensures.steps c.loop-stidx.invariant.rows c.in_ok-push.ensures.rows;
  zeros = c.in_ok-push.ensures.zeros;
}

pub returns : goal.returns
returns g c = after_last _ _ _ _ _ c.in-None.ensures.steps.0 c.loop-stidx.invariant.rows
