-- a turn for each state
use Rattle.std.proofs.Common.{◌<◌, length, arith}
use Rattle.lrdecided.specs.StoredNodes.{states_of}
use Rattle.lrdecided.proofs.CollectedInTurn.{begin_before, next_before, end_before, of_row, state_at, state_left, states_none, sorted_has, none_seen, row_is}
use Rattle.lrdecided.proofs.states.states_before.Goals as goal

pub loop-state-init : goal.loop-state-init
loop-state-init c =
    record {
      seen = none_seen c.from-count.result c.in_ok-seen.seen (states_of c.new-before.result.items) c.in_ok-seen.ensures.bits;
      before = begin_before c.args.graph.now (states_of c.args.states.now) (states_of c.new-before.result.items);
    }

pub loop-state-preserved-then-place-count : goal.loop-state-preserved-then-place-count
loop-state-preserved-then-place-count c =
    let s = state_at c.args.states.now c.loop-state.state-index in
    let left = state_left c.args.states.now c.loop-state.state-index c.loop-state-test.true in
    let old = states_of c.loop-state.before.items in
    record {
      seen = c.loop-state.invariant.seen;
      before = next_before c.args.graph.now _ _ s.0 old old (rw left at c.loop-state.invariant.before) (λ r h. h)
          (λ r x e. let below = (c.requires.graph.gotos.gotos r s.0 x e).below in
          absurd (omega (arith, below, c.if-place-count.true, c.from-place.ensures, c.from-count.ensures, c.all_states_len.ensures)));
    }

pub loop-state-preserved : goal.loop-state-preserved
loop-state-preserved c =
    let s = state_at c.args.states.now c.loop-state.state-index in
    let left = state_left c.args.states.now c.loop-state.state-index c.loop-state-test.true in
    let below : s.0 < length c.args.graph.now = omega (arith, c.if-place-count.false, c.from-place.ensures, c.from-count.ensures, c.all_states_len.ensures) in
    let row = row_is c.args.graph.now c.args.incoming.now s.0 c.from-place.result c.index-incoming-place.result c.requires.incoming c.from-place.ensures below c.index-incoming-place.is in
    record {
      seen = c.in_ok-add_sources.ensures.seen;
      before = next_before c.args.graph.now _ _ s.0 (states_of c.loop-state.before.items) (states_of c.add_sources.new.before.items)
          (rw left at c.loop-state.invariant.before) c.in_ok-add_sources.ensures.kept
          (of_row c.args.graph.now s.0 _ _ row (rw c.as_slice.ensures.value at c.in_ok-add_sources.ensures.added));
    }

pub returns : goal.returns
returns c =
    λ s u x k e. sorted_has _ _ c.sort.ensures.permutation s
    (end_before c.args.graph.now _ _ _ (states_none c.args.states.now c.loop-state.state-index c.loop-state-test.false) c.loop-state.invariant.before s u x k e)
