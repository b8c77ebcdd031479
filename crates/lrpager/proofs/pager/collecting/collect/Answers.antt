use Rattle.std.proofs.Common.{◌∙◌, arith}
use Rattle.std.proofs.lemmas.List.{length-map}
use Rattle.lrpager.proofs.CollectedBelow.{some_kept}
use Rattle.lrpager.proofs.pager.collecting.collect.Goals as goal

pub new-requires : goal.new-requires
new-requires g c =
    let states = c.in_ok-states.ensures in
    let count = c.in_ok-numbers.ensures.count in
    let marked = rw c.as_slice.ensures.value at c.in_ok-marks.ensures in
    record {
      some = some_kept c.args.kept marked states.collected.1 states.collected.2;
      states = rw length-map (omega (arith, states.len, count, c.if-count-MAX.false));
      counted = states.edges;
      order = states.order;
    }

pub returns-clause-states : goal.returns-clause-states
returns-clause-states g c =
    let states = c.in_ok-states.ensures in
    let count = c.in_ok-numbers.ensures.count in
    rw (c.new.ensures, length-map) (omega (arith, states.len, count, c.if-count-MAX.false))

pub marked_states-requires-clause-below : goal.marked_states-requires-clause-below
marked_states-requires-clause-below g c = c.requires.below

pub marked_states-requires-clause-one_symbol : goal.marked_states-requires-clause-one_symbol
marked_states-requires-clause-one_symbol g c = c.requires.one_symbol

pub marked_states-requires-clause-fits : goal.marked_states-requires-clause-fits
marked_states-requires-clause-fits g c = c.requires.fits

pub marked_states-requires-clause-starts : goal.marked_states-requires-clause-starts
marked_states-requires-clause-starts g c = c.requires.starts

pub marked_states-requires-clause-of : goal.marked_states-requires-clause-of
marked_states-requires-clause-of g c = c.requires.of

pub marked_states-requires-clause-most : goal.marked_states-requires-clause-most
marked_states-requires-clause-most g c = c.requires.most

pub returns-clause-collected : goal.returns-clause-collected
returns-clause-collected g c =
    let states = c.in_ok-states.ensures.collected in
    (states.0, c.in_ok-marks.marks, rw c.as_slice.ensures.value at c.in_ok-marks.ensures, states.1, c.new.ensures ∙ states.2)
