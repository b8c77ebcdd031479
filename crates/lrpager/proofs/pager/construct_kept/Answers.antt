use Rattle.std.proofs.Common.{◌≡◌, length, ap, ◌∙◌, arith}
use Rattle.std.proofs.lemmas.List.{length-map}
use Rattle.lrpager.specs.Keeping.{kept_state}
use Rattle.lrpager.proofs.Beginnings.{begins_length, begins_holds, begins_gotos, begins_unclosed, one_symbol}
use Rattle.lrpager.proofs.CollectedStates.{collected_shared, collected_crosses, collected_no_more}
use Rattle.lrpager.proofs.CollectedGraph.{collected_graph, collected_invents_no_conflict}
use Rattle.lrplacing.proofs.ChainGrowth.{chain_of_states}
use Rattle.lrpager.proofs.SizeBounds.{closings_bound_fits}
use Rattle.lrpager.proofs.StartsAtZero.{only_starts}
use Rattle.lrpager.proofs.pager.construct_kept.Goals as goal

pub construct-requires-clause-most : goal.construct-requires-clause-most
construct-requires-clause-most g c = omega (arith, begins_length c.in_ok-drafts.ensures.start, g.met.T.IndexStorage.least)

pub construct-requires-clause-holds : goal.construct-requires-clause-holds
construct-requires-clause-holds g c = begins_holds c.in_ok-drafts.ensures.start c.in_ok-firsts.ensures.shape

pub construct-requires-clause-gotos : goal.construct-requires-clause-gotos
construct-requires-clause-gotos g c = begins_gotos c.in_ok-drafts.ensures.start

pub construct-requires-clause-made : goal.construct-requires-clause-made
construct-requires-clause-made g c =
    let u = begins_unclosed c.in_ok-drafts.ensures.start in omega (arith, begins_length c.in_ok-drafts.ensures.start, u.0)

pub construct-requires-clause-counted : goal.construct-requires-clause-counted
construct-requires-clause-counted g c = let u = begins_unclosed c.in_ok-drafts.ensures.start in omega (arith, u.0, u.1)

pub collect-requires-clause-some : goal.collect-requires-clause-some
collect-requires-clause-some g c = c.in_ok-closings.ensures.holds.some

pub collect-requires-clause-below : goal.collect-requires-clause-below
collect-requires-clause-below g c = λ k u x e. (c.in_ok-closings.ensures.holds.edges k u x e).below

pub collect-requires-clause-one_symbol : goal.collect-requires-clause-one_symbol
collect-requires-clause-one_symbol g c = one_symbol c.in_ok-closings.ensures.holds

pub returns-clause-merged : goal.returns-clause-merged
returns-clause-merged g c =
    let shape = c.in_ok-firsts.ensures.shape in
    let e = c.in_ok-closings.ensures in
    let (h, marks, marked, collected, kept_is) = c.in_ok-graph.ensures.collected in (
      h,
      record {
        graph = collected_graph shape e.holds e.closed e.gotos marked collected;
        shared = collected_shared e.holds marked collected;
        conflicts = collected_invents_no_conflict shape e.holds e.closed e.gotos marked collected;
        crossing = collected_crosses e.holds marked collected;
      },
      rw c.kept-kept.ensures at kept_is,
    )

pub returns-clause-counts : goal.returns-clause-counts
returns-clause-counts g c =
    let e = c.in_ok-closings.ensures in
    let (h, marks, marked, collected, kept_is) = c.in_ok-graph.ensures.collected in
    let most = collected_no_more marked collected in
    let count = ap length kept_is ∙ length-map h (kept_state c.kept-kept.result c.args.grm.now) in
    let made = chain_of_states c.construct.new.drafts.items e.holds.chain in
    let same : c.len-made.result ≡ length c.construct.new.drafts.items = omega arith in record {
      states = omega (arith, most, count);
      made = omega (arith, e.most);
      closed = omega (arith, e.made);
      closings = rw same e.closings;
      fits = closings_bound_fits g.T.IndexStorage.MAX c.args.grm.now c.in_order.ensures.sizes g.met.T.IndexStorage.most;
      chain = (made.0, made.1, omega (arith, made.2));
    }

pub construct-requires-clause-of : goal.construct-requires-clause-of
construct-requires-clause-of g c = c.in_ok-firsts.ensures

pub construct-requires-clause-sizes : goal.construct-requires-clause-sizes
construct-requires-clause-sizes g c = c.in_order.ensures.sizes

pub construct-requires-clause-candidates : goal.construct-requires-clause-candidates
construct-requires-clause-candidates g c = c.in_ok-drafts.ensures.candidates

pub collect-requires-clause-fits : goal.collect-requires-clause-fits
collect-requires-clause-fits g c = c.in_ok-closings.ensures.holds.fits

pub collect-requires-clause-starts : goal.collect-requires-clause-starts
collect-requires-clause-starts g c = λ k below. only_starts (c.in_ok-closings.ensures.holds.sharing k below)

pub collect-requires-clause-of : goal.collect-requires-clause-of
collect-requires-clause-of g c = c.in_ok-firsts.ensures

pub collect-requires-clause-most : goal.collect-requires-clause-most
collect-requires-clause-most g c = c.in_ok-closings.ensures.most

pub returns-clause-below : goal.returns-clause-below
returns-clause-below g c = c.in_ok-graph.ensures.states
