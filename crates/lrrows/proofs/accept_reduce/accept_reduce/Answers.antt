use Rattle.std.proofs.Common.{◌<◌, length, refl, ◌∙◌}
use Rattle.std.specs.Prelude.{option_map}
use Rattle.lritems.specs.ItemsOf.{set_of}
use Rattle.lrrows.proofs.LeastAcceptReduce.{IsAcceptReduceOf, IsLesser, accept_reduce_found, lesser_before, lesser_other, no_accept_reduce_yet, next_asked, asked_in_vain, asked, all_asked}
use Rattle.lrrows.proofs.accept_reduce.accept_reduce.Goals.{in-Some-least, in_default-least-2, in_default-least}
use Rattle.lrrows.proofs.accept_reduce.accept_reduce.Goals as goal

pub loop-stidx-init : goal.loop-stidx-init
loop-stidx-init g c =
    no_accept_reduce_yet c.args.grm.now c.args.sg.now _ (c.into_iter-stidx-iterator.ensures.into_iter_gives ∙ c.iter_stidxs-stidx-items.ensures)

pub closed_state-requires : goal.closed_state-requires
closed_state-requires g c = next_asked c.args.grm.now c.args.sg.now _ _ _ _ c.in-Some.ensures.steps c.loop-stidx.invariant

pub accept_reduce_at-requires-clause-fits : goal.accept_reduce_at-requires-clause-fits
accept_reduce_at-requires-clause-fits g c =
    let l = next_asked c.args.grm.now c.args.sg.now _ _ _ _ c.in-Some.ensures.steps c.loop-stidx.invariant in
    rw c.closed_state.ensures.items (c.requires.graph.closed _ l)

pub accept_reduce_at-requires-clause-upwards : goal.accept_reduce_at-requires-clause-upwards
accept_reduce_at-requires-clause-upwards g c =
    rw c.closed_state.ensures.items c.closed_state.ensures.upwards

pub loop-stidx-preserved-in-Some-2 : goal.loop-stidx-preserved-in-Some-2
loop-stidx-preserved-in-Some-2 g c =
    let number = g.T.IndexStorage.number in
    let grm = c.args.grm.now in
    let h = c.args.sg.now in
    let s = number c.in-Some.stidx.0 in
    let p = number c.in-Some-2.pidx.0 in
    let l : s < length h = next_asked grm h _ _ _ _ c.in-Some.ensures.steps c.loop-stidx.invariant in
    let found : IsAcceptReduceOf grm h s (option_map (λ q. number q.0) c.in_ok-pidx.field-0) =
    accept_reduce_found grm h c.requires.graph s (set_of number c.closed_state.result.now) _ l c.closed_state.ensures.items c.in_ok-pidx.ensures in
    let lesser : IsLesser (option_map (λ q. number q.0) c.loop-stidx.least) p (number c.match-least.least.0) =
    elim c.match-least.branch [
      | in-Some-least w ↦ rw (w.in-Some-least.is, w.least-is)
          (lesser_before number g.T.Ord.cmp g.T.PartialOrd.partial_cmp g.met.T.IndexStorage.ordered g.met.T.Ord.matches_partial_cmp _ _ _ w.lt.ensures w.if-lt.true)
      | in_default-least-2 w ↦ rw (w.in-Some-least.is, w.least-is)
          (lesser_other number g.T.Ord.cmp g.T.PartialOrd.partial_cmp g.met.T.IndexStorage.ordered g.met.T.Ord.matches_partial_cmp _ _ _ w.lt.ensures w.if-lt.false)
      | in_default-least w ↦ rw (w.in_default-least.is, w.least-is) refl
    ] in
    asked grm h _ p (number c.match-least.least.0) _ s _ c.in-Some.ensures.steps c.loop-stidx.invariant (rw c.in-Some-2.is at found) lesser

pub loop-stidx-preserved : goal.loop-stidx-preserved
loop-stidx-preserved g c =
    let number = g.T.IndexStorage.number in
    let grm = c.args.grm.now in
    let h = c.args.sg.now in
    let s = number c.in-Some.stidx.0 in
    let l : s < length h = next_asked grm h _ _ _ _ c.in-Some.ensures.steps c.loop-stidx.invariant in
    let found : IsAcceptReduceOf grm h s (option_map (λ q. number q.0) c.in_ok-pidx.field-0) =
    accept_reduce_found grm h c.requires.graph s (set_of number c.closed_state.result.now) _ l c.closed_state.ensures.items c.in_ok-pidx.ensures in
    asked_in_vain grm h _ _ s _ c.in-Some.ensures.steps c.loop-stidx.invariant (rw c.in_default.is at found)

pub returns : goal.returns
returns g c = all_asked c.args.grm.now c.args.sg.now (λ p. g.T.IndexStorage.number p.0) _ _ c.in-None.ensures.steps.0 c.loop-stidx.invariant
