-- a turn for each state
use Rattle.std.proofs.Common.{◌<◌, length, refl, ◌∙◌, arith}
use Rattle.lrsearches.specs.StoredWays.{row_of}
use Rattle.lrclosing.proofs.SymbolsBehindDots.{left_at, left_none}
use Rattle.lrdecided.proofs.CollectedInTurn.{row_is}
use Rattle.lrgrammar.specs.Symbols.{number_of}
use Rattle.lrexchange.specs.StoredPositions.{symbols_of, belows_of}
use Rattle.lrexchange.proofs.AskedInTurn.{begin_all, next_all}
use Rattle.lrexchange.proofs.BelowStates.{StepsFrom, below_of, more_steps, steps_of_row, all_steps}
use Rattle.lrexchange.proofs.below.steps_back.Goals as goal

pub loop-below-init : goal.loop-below-init
loop-below-init c =
    begin_all (StepsFrom c.args.graph.now (belows_of c.new-steps.result.items)) (belows_of c.args.belows.now)

pub loop-below-preserved : goal.loop-below-preserved
loop-below-preserved c =
    let h = c.args.graph.now in
    let b = c.below-item.result in
    let q = b.state.0 in
    let left = left_at below_of c.args.belows.now c.loop-below.below-index b b c.loop-below-test.true c.below-item.is refl in
    let within : q < length h = omega (arith, c.if-place-count.false, c.from-place.ensures, c.from-count.ensures, c.all_states_len.ensures) in
    let row = row_is h c.args.incoming.now q c.from-place.result c.index-incoming-place.result c.requires c.from-place.ensures within c.index-incoming-place.is in
    let old = belows_of c.loop-below.steps.items in
    let new = belows_of c.add_steps.new.belows.items in
    next_all (StepsFrom h old) (StepsFrom h new) (belows_of c.args.belows.now) _ (below_of b) (rw left at c.loop-below.invariant)
    (more_steps h old new c.in_ok-add_steps.ensures.kept)
    (steps_of_row h q (symbols_of b.symbols.items) (row_of number_of c.index-incoming-place.result.items) new (λ e. c.if-place-eq0.false (c.from-place.ensures ∙ e)) row
    (rw (c.as_slice-row.ensures.value, c.as_slice.ensures.value) at c.in_ok-add_steps.ensures.added))

pub returns : goal.returns
returns c =
    all_steps c.args.graph.now (belows_of c.args.belows.now) _ (belows_of c.loop-below.steps.items)
    (left_none below_of c.args.belows.now c.loop-below.below-index c.loop-below-test.false) c.loop-below.invariant
