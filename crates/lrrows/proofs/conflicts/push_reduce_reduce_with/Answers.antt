-- each token gives its entry, if it has one
use Rattle.std.proofs.Common.{◌≡◌, ◌++◌, ◌∙◌, ap, arith}
use Rattle.std.specs.List.{filter_map}
use Rattle.lrspec.specs.texts.PrintedTexts.{set_bits}
use Rattle.lrspec.proofs.grammars.ListMembers.{Among}
use Rattle.lrrows.specs.StoredLists.{stored_reduce_reduce, stored_reduce_reduces, least_of}
use Rattle.lrrows.proofs.ConflictSteps.{reduce_reduce_on, next_below, rest_below, set_places_are, set_bits_below, reduce_reduce_added, reduce_reduce_passed}
use Rattle.lrrows.proofs.RowTurns.{row_begun}
use Rattle.lrrows.proofs.conflicts.push_reduce_reduce_with.Goals as goal

pub loop-token-init : goal.loop-token-init
loop-token-init g c =
    let number = g.T.IndexStorage.number in
    let v = c.args.ctx.now in
    let are : c.into_iter-token-iterator.result ≡ set_bits v =
    rw (c.into_iter-token-iterator.ensures.into_iter_gives, c.iter_set_bits-token-items.ensures.places, c.len.ensures.number) (set_places_are v) in
    record {
      below = λ t i. let j : Among t (set_bits v) = rw are at i in omega (arith, set_bits_below v t j);
      added =
          ap
          (λ ts. stored_reduce_reduces number c.args.conflicts.now.items
          ++ filter_map (reduce_reduce_on (least_of number c.args.least.now) (number c.args.stidx.0) (number c.args.pidx.0)) ts)
          are;
    }

pub offset_bounds-least-token : goal.offset_bounds-least-token
offset_bounds-least-token g c =
    let l = next_below _ _ _ _ c.in-Some.ensures.steps c.loop-token.invariant.below in omega arith

pub bounds-least-token : goal.bounds-least-token
bounds-least-token g c = next_below _ _ _ _ c.in-Some.ensures.steps c.loop-token.invariant.below

pub reduce_reduce_on-requires : goal.reduce_reduce_on-requires
reduce_reduce_on-requires g c =
    let l = next_below _ _ _ _ c.in-Some.ensures.steps c.loop-token.invariant.below in omega arith

pub loop-token-preserved-in-Continue-1 : goal.loop-token-preserved-in-Continue-1
loop-token-preserved-in-Continue-1 g c =
    let number = g.T.IndexStorage.number in
    record {
      below = rest_below _ _ _ _ c.in-Some.ensures.steps c.loop-token.invariant.below;
      added =
          reduce_reduce_added (λ p. number p.0) (stored_reduce_reduce number) c.args.least.now (number c.args.stidx.0) (number c.args.pidx.0) _ _ _ _ _ _ _ _ _
          c.in-Some.ensures.steps (next_below _ _ _ _ c.in-Some.ensures.steps c.loop-token.invariant.below) c.index-least-token.is
          c.reduce_reduce_on.ensures.entry c.in-Some-reduce_reduce_on.is c.in_ok-push.ensures.items c.loop-token.invariant.added;
    }

pub loop-token-preserved : goal.loop-token-preserved
loop-token-preserved g c =
    let number = g.T.IndexStorage.number in
    record {
      below = rest_below _ _ _ _ c.in-Some.ensures.steps c.loop-token.invariant.below;
      added =
          reduce_reduce_passed (λ p. number p.0) (stored_reduce_reduce number) c.args.least.now (number c.args.stidx.0) (number c.args.pidx.0) _ _ _ _ _ _ _
          c.in-Some.ensures.steps (next_below _ _ _ _ c.in-Some.ensures.steps c.loop-token.invariant.below) c.index-least-token.is
          c.reduce_reduce_on.ensures.entry c.in_default.is c.loop-token.invariant.added;
    }

pub returns : goal.returns
returns g c =
    record {
      entries =
          row_begun (stored_reduce_reduces g.T.IndexStorage.number c.loop-token.conflicts.items)
          ∙ rw c.in-None.ensures.steps.0 at c.loop-token.invariant.added;
    }
