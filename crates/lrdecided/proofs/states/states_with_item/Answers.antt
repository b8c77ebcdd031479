-- a turn for each state
use Rattle.lrdecided.specs.StoredNodes.{states_of}
use Rattle.lrdecided.proofs.CollectedInTurn.{begin_kept, next_kept, end_kept, push_keeps, push_has, state_at, state_left, states_none}
use Rattle.lrdecided.proofs.states.states_with_item.Goals as goal

pub loop-state-init : goal.loop-state-init
loop-state-init c =
    begin_kept c.args.graph.now c.args.item.0.0 c.args.item.1.0 (states_of c.args.states.now) (states_of c.new-kept.result.items)

pub loop-state-preserved-then-not-has_item : goal.loop-state-preserved-then-not-has_item
loop-state-preserved-then-not-has_item c =
    let s = state_at c.args.states.now c.loop-state.state-index in
    let left = state_left c.args.states.now c.loop-state.state-index c.loop-state-test.true in
    let old = states_of c.loop-state.kept.items in
    next_kept c.args.graph.now c.args.item.0.0 c.args.item.1.0 _ _ s.0 old old (rw left at c.loop-state.invariant) (λ r h. h)
    (λ i. absurd (c.has_item.ensures c.if-not-has_item.true i))

pub loop-state-preserved : goal.loop-state-preserved
loop-state-preserved c =
    let s = state_at c.args.states.now c.loop-state.state-index in
    let left = state_left c.args.states.now c.loop-state.state-index c.loop-state-test.true in
    let old = c.loop-state.kept.items in
    let new = c.push.new.self.items in
    next_kept c.args.graph.now c.args.item.0.0 c.args.item.1.0 _ _ s.0 (states_of old) (states_of new) (rw left at c.loop-state.invariant)
    (push_keeps old new s c.in_ok-push.ensures.items) (λ i. push_has old new s c.in_ok-push.ensures.items)

pub returns : goal.returns
returns c =
    end_kept c.args.graph.now c.args.item.0.0 c.args.item.1.0 _ _ _ (states_none c.args.states.now c.loop-state.state-index c.loop-state-test.false) c.loop-state.invariant
