-- a turn for each edge
use Rattle.std.proofs.Common.{ℕ, ◌∷◌}
use Rattle.std.specs.Prelude.{Contains}
use Rattle.lrspec.specs.grammars.Grammar as math
use Rattle.lrgrammar.specs.Symbols.{symbol_of, number_of}
use Rattle.lrsearches.specs.StoredWays.{row_of}
use Rattle.lrdecided.proofs.CollectedInTurn.{kept, added, edge_at, edge_of, edge_left, edges_none}
use Rattle.lrexchange.specs.StoredPositions.{symbols_of, belows_of}
use Rattle.lrexchange.proofs.AskedInTurn.{begin_all, next_all, end_all}
use Rattle.lrexchange.proofs.BelowStates.{step_so, below_of}
use Rattle.lrexchange.proofs.below.add_steps.Goals as goal

pub loop-edge-init : goal.loop-edge-init
loop-edge-init c =
    record {
      kept = λ e k. k;
      added = begin_all (λ (e : math.Symbol × ℕ). Contains (belows_of c.args.belows.now.items) (e.1, e.0 ∷ symbols_of c.args.symbols.now))
          (row_of number_of c.args.row.now);
    }

pub loop-edge-preserved : goal.loop-edge-preserved
loop-edge-preserved c =
    let row = c.args.row.now in
    let edge = edge_at row c.loop-edge.edge-index in
    let old = c.loop-edge.belows.items in
    let new = c.push.new.self.items in
    let step = c.in_ok-step.step in
    let xs = symbols_of c.args.symbols.now in
    let left = edge_left row c.loop-edge.edge-index c.loop-edge-test.true in
    let keeps = kept below_of old new step c.in_ok-push.ensures.items in
    record {
      kept = λ e k. keeps e (c.loop-edge.invariant.kept e k);
      added = next_all (λ (e : math.Symbol × ℕ). Contains (belows_of old) (e.1, e.0 ∷ xs)) (λ (e : math.Symbol × ℕ). Contains (belows_of new) (e.1, e.0 ∷ xs))
          (row_of number_of row) _ (edge_of edge) (rw left at c.loop-edge.invariant.added) (λ e k. keeps (e.1, e.0 ∷ xs) k)
          (added below_of old new step c.in_ok-push.ensures.items (edge.1.0, symbol_of number_of edge.0 ∷ xs)
          (step_so _ _ _ _ c.in_ok-step.ensures.state c.in_ok-step.ensures.symbols));
    }

pub returns-clause-added : goal.returns-clause-added
returns-clause-added c = λ x r k.
    end_all (λ (e : math.Symbol × ℕ). Contains (belows_of c.loop-edge.belows.items) (e.1, e.0 ∷ symbols_of c.args.symbols.now)) (row_of number_of c.args.row.now) _
    (edges_none c.args.row.now c.loop-edge.edge-index c.loop-edge-test.false) c.loop-edge.invariant.added (x, r) k
