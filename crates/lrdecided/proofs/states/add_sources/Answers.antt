-- a turn for each edge
use Rattle.std.proofs.Common.{refl, ◌∙◌}
use Rattle.lrgrammar.specs.Symbols.{symbol_of, number_of}
use Rattle.lrsearches.specs.StoredWays.{row_of}
use Rattle.lrdecided.specs.StoredNodes.{states_of}
use Rattle.lrdecided.proofs.CollectedInTurn.{begin_sources, next_sources, end_sources, push_keeps, push_has, edge_at, edge_left, edges_none}
use Rattle.lrdecided.proofs.states.add_sources.Goals as goal

pub loop-edge-init : goal.loop-edge-init
loop-edge-init c =
    record { size = refl; seen = c.requires; kept = λ s h. h; adding = begin_sources (row_of number_of c.args.row.now) (states_of c.args.before.now.items) }

pub loop-edge-preserved-then-not-mark : goal.loop-edge-preserved-then-not-mark
loop-edge-preserved-then-not-mark c =
    let edge = edge_at c.args.row.now c.loop-edge.edge-index in
    let states = states_of c.loop-edge.before.items in
    let left = edge_left c.args.row.now c.loop-edge.edge-index c.loop-edge-test.true in
    let was = (rw (c.if-not-mark.true, c.from.ensures) at c.mark.ensures.marked) states c.loop-edge.invariant.seen in
    record {
      size = c.mark.ensures.size ∙ c.loop-edge.invariant.size;
      seen = was.0;
      kept = c.loop-edge.invariant.kept;
      adding = next_sources _ _ (symbol_of number_of edge.0) edge.1.0 states states (rw left at c.loop-edge.invariant.adding) (λ s h. h) was.1;
    }

pub loop-edge-preserved : goal.loop-edge-preserved
loop-edge-preserved c =
    let edge = edge_at c.args.row.now c.loop-edge.edge-index in
    let old = c.loop-edge.before.items in
    let new = c.push.new.self.items in
    let keeps = push_keeps old new edge.1 c.in_ok-push.ensures.items in
    let has = push_has old new edge.1 c.in_ok-push.ensures.items in
    let left = edge_left c.args.row.now c.loop-edge.edge-index c.loop-edge-test.true in
    record {
      size = c.mark.ensures.size ∙ c.loop-edge.invariant.size;
      seen = (rw (c.if-not-mark.false, c.from.ensures) at c.mark.ensures.marked) (states_of old) (states_of new) c.loop-edge.invariant.seen keeps has;
      kept = λ s h. keeps s (c.loop-edge.invariant.kept s h);
      adding = next_sources _ _ (symbol_of number_of edge.0) edge.1.0 (states_of old) (states_of new) (rw left at c.loop-edge.invariant.adding) keeps has;
    }

pub returns-in_err-push-clause-size : goal.returns-in_err-push-clause-size
returns-in_err-push-clause-size c = c.mark.ensures.size ∙ c.loop-edge.invariant.size

pub returns-clause-added : goal.returns-clause-added
returns-clause-added c =
    end_sources _ _ _ (edges_none c.args.row.now c.loop-edge.edge-index c.loop-edge-test.false) c.loop-edge.invariant.adding
