use Rattle.std.proofs.Common.{◌+◌, arith}
use Rattle.lrpager.specs.Choices as choice
use Rattle.lrpager.proofs.ClosedCounts.{closes_counted}
use Rattle.lrplacing.proofs.CountFacts.{none_unclosed_of_closed}
use Rattle.lrpager.proofs.NextStates.{next_is_unclosed}
use Rattle.lrpager.proofs.SizeBounds.{closings_fit, closings_most, weight_within}
use Rattle.lrpager.proofs.ClosingFacts.{turned_holds, turned_gotos, turned_made, turned_counted}
use Rattle.lrpager.proofs.pager.construct.Goals as goal

pub close-requires-clause-below : goal.close-requires-clause-below
close-requires-clause-below g c =
    let next = next_is_unclosed (rw c.as_slice.ensures.value at c.in-Some.ensures) in next.0

pub close-requires-clause-unclosed : goal.close-requires-clause-unclosed
close-requires-clause-unclosed g c =
    let next = next_is_unclosed (rw c.as_slice.ensures.value at c.in-Some.ensures) in next.1

pub overflow_add-closings : goal.overflow_add-closings
overflow_add-closings g c =
    let i = c.loop-i.invariant in
    let t = c.in_ok-close.ensures.turn in
    let m = t.closes in
    let fits =
    closings_fit g.T.IndexStorage.MAX c.args.grm.now t.mid (c.loop-i.closings + 1) c.requires.sizes g.met.T.IndexStorage.most (omega (arith, m.closes.length_is, i.most))
    (closes_counted c.args.grm.now c.loop-i.drafts.items t.mid c.in-Some.i m.closes c.loop-i.closings i.counted) in
    omega (arith, fits)

pub loop-i-smaller : goal.loop-i-smaller
loop-i-smaller g c =
    let i = c.loop-i.invariant in
    let t = c.in_ok-close.ensures.turn in
    let m = t.closes in
    let counted = closes_counted c.args.grm.now c.loop-i.drafts.items t.mid c.in-Some.i m.closes c.loop-i.closings i.counted in
    let within = weight_within c.args.grm.now t.mid g.T.IndexStorage.MAX (omega (arith, m.closes.length_is, i.most)) in
    omega (arith, counted, within)

pub loop-i-preserved : goal.loop-i-preserved
loop-i-preserved g c =
    let i = c.loop-i.invariant in
    let shape = c.requires.of.shape in
    let e = c.in_ok-close.ensures in
    let t = e.turn in
    record {
      most = e.most;
      holds = turned_holds shape t.closes i.holds t.places;
      gotos = turned_gotos shape t.closes i.holds t.places i.gotos;
      candidates = e.candidates;
      tools = e.tools;
      made = turned_made shape t.closes i.holds t.places c.loop-i.closings i.made;
      counted = turned_counted shape t.closes i.holds t.places c.loop-i.closings i.counted;
      order = λ us r. i.order us (choice.ClosesAll.more (rw c.as_slice.ensures.value at c.in-Some.ensures) t.closes t.places r);
    }

pub returns-clause-order : goal.returns-clause-order
returns-clause-order g c = c.loop-i.invariant.order c.loop-i.drafts.items (choice.ClosesAll.done (rw c.as_slice.ensures.value at c.in_default.ensures))

pub returns-clause-made : goal.returns-clause-made
returns-clause-made g c =
    let none = none_unclosed_of_closed c.loop-i.drafts.items (rw c.as_slice.ensures.value at c.in_default.ensures) in
    omega (arith, none, c.loop-i.invariant.made)

pub returns-clause-closings : goal.returns-clause-closings
returns-clause-closings g c = closings_most c.args.grm.now c.loop-i.drafts.items c.loop-i.closings c.loop-i.invariant.counted
