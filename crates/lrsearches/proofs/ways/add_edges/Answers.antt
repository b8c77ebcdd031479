-- a turn for each edge of the state
use Rattle.std.proofs.Common.{refl, arith}
use Rattle.lrspec.specs.merging.Graph as math
use Rattle.lrgrammar.specs.Symbols.{symbol_of}
use Rattle.lrgrammar.specs.declared.idx.StIdx.{StIdx}
use Rattle.lrgraphs.specs.GraphOf.{edges_of}
use Rattle.lrgraphs.proofs.FoundEdges.{found_all}
use Rattle.lrsearches.proofs.RowsInTurn.{begin_adding, next_adding, end_adding}
use Rattle.lrsearches.proofs.ways.add_edges.Goals as goal

pub loop-symbol-init : goal.loop-symbol-init
loop-symbol-init g c =
    let number = g.T.IndexStorage.number in
    let s = number c.args.stidx.0 in
    let i = c.into_iter-symbol-iterator.ensures.into_iter_gives in
    record {
      found = rw i.0 (found_all number _ c.edges-symbol-items.ensures.order _ _ (math.edges_of c.args.graph.now s) c.edges-symbol-items.ensures.edges i.6);
      adding = rw (i.0, c.edges-symbol-items.ensures.edges) (begin_adding number c.args.graph.now s c.args.incoming.now.items (math.edges_of c.args.graph.now s) (λ v. refl));
    }

pub index_mut-requires : goal.index_mut-requires
index_mut-requires g c =
    let number = g.T.IndexStorage.number in
    let found = rw c.in-Some.ensures.steps at c.loop-symbol.invariant.found in
    let below = c.requires.below (symbol_of number c.in-Some.symbol.now) (number c.in-Some.target.now.0) found.0 in
    omega (arith, below, c.from.ensures, c.loop-symbol.invariant.adding.states, c.requires.states)

pub loop-symbol-preserved : goal.loop-symbol-preserved
loop-symbol-preserved g c =
    let number = g.T.IndexStorage.number in
    let s = number c.args.stidx.0 in
    let found = rw c.in-Some.ensures.steps at c.loop-symbol.invariant.found in
    let adding = rw c.in-Some.ensures.steps at c.loop-symbol.invariant.adding in
    let below = c.requires.below (symbol_of number c.in-Some.symbol.now) (number c.in-Some.target.now.0) found.0 in
    record {
      found = found.1;
      adding = rw c.from.ensures
          (next_adding number c.args.graph.now s c.args.incoming.now.items c.loop-symbol.incoming.items
          (edges_of number (λ (u : StIdx g.row.T.Denot). number u.0) c.next.new.self) (c.in-Some.symbol.now, c.args.stidx) (number c.in-Some.target.now.0)
          c.index_mut.result.now c.push.new.self refl found.0 (omega (arith, below, c.loop-symbol.invariant.adding.states, c.requires.states))
          (rw c.from.ensures at c.index_mut.ensures.value) c.in_ok-push.ensures.items adding);
    }

pub returns : goal.returns
returns g c =
    let number = g.T.IndexStorage.number in
    end_adding number c.args.graph.now (number c.args.stidx.0) c.args.incoming.now.items c.loop-symbol.incoming.items _ (rw c.in-None.ensures.steps.0 refl) c.loop-symbol.invariant.adding
