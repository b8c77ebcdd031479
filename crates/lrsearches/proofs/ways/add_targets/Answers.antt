-- a turn for each edge of the state
use Rattle.std.proofs.Common.{◌<◌, length, length-set, ◌∙◌}
use Rattle.lrgrammar.proofs.Turns.{all_more}
use Rattle.lrspec.specs.merging.Graph as math
use Rattle.lrgrammar.specs.Symbols.{symbol_of}
use Rattle.lrgraphs.proofs.FoundEdges.{found_all}
use Rattle.lrsearches.proofs.ways.add_targets.Goals as goal

pub loop-target-init : goal.loop-target-init
loop-target-init g c =
    let number = g.T.IndexStorage.number in
    let s = number c.args.from.0.0 in
    let i = c.into_iter-target-iterator.ensures.into_iter_gives in
    record {
      found = rw i.0 (found_all number _ c.edges-target-items.ensures.order _ _ (math.edges_of c.args.graph.now s) c.edges-target-items.ensures.edges i.6);
      states = c.requires.states;
      within = c.requires.within;
    }

pub loop-target-preserved-in-Continue-1 : goal.loop-target-preserved-in-Continue-1
loop-target-preserved-in-Continue-1 g c =
    let number = g.T.IndexStorage.number in
    let found = rw c.in-Some.ensures.steps at c.loop-target.invariant.found in
    let below = c.requires.below (symbol_of number c.in-Some.field-0-0.now) (number c.in-Some.target.now.0) found.0 in
    record {
      found = found.1;
      states = length-set c.loop-target.distances.items c.from-place.result _ ∙ c.loop-target.invariant.states;
      within =
          all_more (λ e. number e.0.0 < length c.args.graph.now) c.loop-target.reached.items c.push.new.self.items (c.in-Some.target.now, c.saturating_add-distance.result)
          c.in_ok-push.ensures.items c.loop-target.invariant.within below;
    }
