use Rattle.std.proofs.Common.{◌≡◌, ℕ, ◌<◌, ◌∷◌, ◌++◌, ◌∙◌, Some, option_map, refl, ap, append-nil, arith}
use Rattle.lrspec.specs.grammars.Grammar.{token_count}
use Rattle.lrspec.specs.merging.Graph.{closed_of}
use Rattle.lrspec.specs.tables.Table.{reductions}
use Rattle.lrgraphs.specs.GraphOf.{edges_of}
use Rattle.lrgraphs.proofs.DistinctSymbols.{distinct_entries}
use Rattle.lrrows.specs.StateRows.{first_of}
use Rattle.lrrows.specs.StoredLists.{stored_shift_reduce, stored_shift_reduces}
use Rattle.lrrows.proofs.ConflictSteps.{entry_added, entry_passed, least_long, least_at, least_below}
use Rattle.lrrows.proofs.TokenEdges.{token_edges, entry_of, tokens_ascend, state_tokens_within, conflicts_of_edges}
use Rattle.lrrows.proofs.conflicts.push_shift_reduce.Given as given
use Rattle.lrrows.proofs.conflicts.push_shift_reduce.Goals as goal
use Rattle.lrrows.proofs.conflicts.push_shift_reduce.Goals.{In-Token, After-index-least-from}

-- the edge at hand is the first of those that are left
first : (g : given.Over) (c : In-Token g)
    → token_edges (edges_of g.T.IndexStorage.number (λ u. g.T.IndexStorage.number u.0) c.loop-symbol.symbol-iterator)
    ≡ (g.T.IndexStorage.number c.in-Token.tidx.0, g.T.IndexStorage.number c.in-Some._target.now.0)
    ∷ token_edges (edges_of g.T.IndexStorage.number (λ u. g.T.IndexStorage.number u.0) c.next.new.self)
first g c = rw (c.in-Some.ensures.steps, c.in-Token.is) refl

-- its token is the grammar's
below : (g : given.Over) (c : In-Token g) → g.T.IndexStorage.number c.in-Token.tidx.0 < token_count c.args.grm.now
below g c = (rw (first g c) at c.loop-symbol.invariant.within).0

-- the least production there, by its number
least : (g : given.Over) (c : After-index-least-from g) → g.T.IndexStorage.number c.in-Token.tidx.0 < token_count c.args.grm.now
    → option_map (λ p. g.T.IndexStorage.number p.0) c.index-least-from.result
    ≡ first_of (reductions c.args.grm.now (closed_of c.args.sg.now (g.T.IndexStorage.number c.args.stidx.0)) (g.T.IndexStorage.number c.in-Token.tidx.0))
least g c within =
    let number = g.T.IndexStorage.number in
    let a = closed_of c.args.sg.now (number c.args.stidx.0) in
    least_at (λ p. number p.0) c.args.least.now (λ u. first_of (reductions c.args.grm.now a u)) _ (number c.in-Token.tidx.0) _ c.requires.least within
    (rw c.from.ensures at c.index-least-from.is)

pub loop-symbol-init : goal.loop-symbol-init
loop-symbol-init g c =
    let number = g.T.IndexStorage.number in
    let distinct = rw c.edges-edges.ensures.edges at (distinct_entries number (λ u. number u.0) _ c.edges-edges.ensures.order c.edges-edges.result.now.entries c.len.ensures.ordered) in
    let within = state_tokens_within c.args.grm.now c.args.sg.now (number c.args.stidx.0) c.requires.graph distinct in
    rw (c.into_iter-symbol-iterator.ensures.into_iter_gives.0, c.edges-edges.ensures.edges) record { added = refl; within = within }

pub offset_bounds-least-from : goal.offset_bounds-least-from
offset_bounds-least-from g c =
    let number = g.T.IndexStorage.number in
    let long = least_long (λ p. number p.0) c.args.least.now _ _ c.requires.least in
    let within = below g (goal.at.offset_bounds-least-from g c).In-Token in
    omega (arith, c.from.ensures, long, within)

pub bounds-least-from : goal.bounds-least-from
bounds-least-from g c =
    let number = g.T.IndexStorage.number in
    let long = least_long (λ p. number p.0) c.args.least.now _ _ c.requires.least in
    let within = below g (goal.at.bounds-least-from g c).In-Token in
    omega (arith, c.from.ensures, long, within)

pub shift_reduce_on-requires-clause-token : goal.shift_reduce_on-requires-clause-token
shift_reduce_on-requires-clause-token g c = below g (goal.at.shift_reduce_on-requires-clause-token g c).In-Token

pub shift_reduce_on-requires-clause-prod : goal.shift_reduce_on-requires-clause-prod
shift_reduce_on-requires-clause-prod g c =
    let number = g.T.IndexStorage.number in
    let a = closed_of c.args.sg.now (number c.args.stidx.0) in
    least_below (λ p. number p.0) c.args.grm.now a (number c.in-Token.tidx.0) c.index-least-from.result
    (least g (goal.at.shift_reduce_on-requires-clause-prod g c).After-index-least-from (below g (goal.at.shift_reduce_on-requires-clause-prod g c).In-Token))

pub loop-symbol-preserved-in-Continue-1 : goal.loop-symbol-preserved-in-Continue-1
loop-symbol-preserved-in-Continue-1 g c =
    let number = g.T.IndexStorage.number in
    let at = goal.at.loop-symbol-preserved-in-Continue-1 g c in
    let here = first g at.In-Token in
    let entry = entry_of c.args.grm.now c.args.sg.now (number c.args.stidx.0) in
    let gives = c.shift_reduce_on.ensures.entry _ (number c.in-Some._target.now.0) (least g at.After-index-least-from (below g at.In-Token)) in
    record {
      added = entry_added (stored_shift_reduce number) (λ (e : ℕ × ℕ). entry e.0 (Some e.1)) (number c.in-Token.tidx.0, number c.in-Some._target.now.0) _ _
          c.shift_reduce_on.result c.in-Some-shift_reduce_on.entry c.loop-symbol.conflicts.items c.push.new.self.items _ here gives c.in-Some-shift_reduce_on.is
          c.in_ok-push.ensures.items c.loop-symbol.invariant.added;
      within = (rw here at c.loop-symbol.invariant.within).1;
    }

pub loop-symbol-preserved-in_default-shift_reduce_on : goal.loop-symbol-preserved-in_default-shift_reduce_on
loop-symbol-preserved-in_default-shift_reduce_on g c =
    let number = g.T.IndexStorage.number in
    let at = goal.at.loop-symbol-preserved-in_default-shift_reduce_on g c in
    let here = first g at.In-Token in
    let entry = entry_of c.args.grm.now c.args.sg.now (number c.args.stidx.0) in
    let gives = c.shift_reduce_on.ensures.entry _ (number c.in-Some._target.now.0) (least g at.After-index-least-from (below g at.In-Token)) in
    record {
      added = entry_passed (stored_shift_reduce number) (λ (e : ℕ × ℕ). entry e.0 (Some e.1)) (number c.in-Token.tidx.0, number c.in-Some._target.now.0) _ _
          c.shift_reduce_on.result c.loop-symbol.conflicts.items _ here gives c.in_default-shift_reduce_on.is c.loop-symbol.invariant.added;
      within = (rw here at c.loop-symbol.invariant.within).1;
    }

pub loop-symbol-preserved : goal.loop-symbol-preserved
loop-symbol-preserved g c =
    let inv = rw (c.in-Some.ensures.steps, c.in_default.is) at c.loop-symbol.invariant in
    inv

pub returns : goal.returns
returns g c =
    let number = g.T.IndexStorage.number in
    let es = c.edges-edges.result.now.entries in
    let distinct = rw c.edges-edges.ensures.edges at (distinct_entries number (λ u. number u.0) _ c.edges-edges.ensures.order es c.len.ensures.ordered) in
    let up = rw c.edges-edges.ensures.edges at (tokens_ascend number (λ u. number u.0) _ c.edges-edges.ensures.order es c.len.ensures.ordered) in
    let made = rw (c.in-None.ensures.steps.0, append-nil) at c.loop-symbol.invariant.added in
    record {
      entries = made ∙ ap (λ xs. stored_shift_reduces number c.args.conflicts.now.items ++ xs)
          (conflicts_of_edges c.args.grm.now c.args.sg.now (number c.args.stidx.0) c.requires.graph distinct up);
    }
