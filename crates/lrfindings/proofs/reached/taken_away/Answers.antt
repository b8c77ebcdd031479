use Rattle.std.proofs.Common.{◌∙◌, refl, sym}
use Rattle.lrfindings.proofs.TakenShifts.{none_taken, shift_passed, shift_taken, all_taken}
use Rattle.lrfindings.proofs.reached.taken_away.Goals as goal

pub loop-one-init : goal.loop-one-init
loop-one-init c = none_taken c.args.resolved.now c.new-cells.result (λ s t. rw c.new-cells.ensures.empty refl)

pub loop-one-preserved-then-leaves_shift : goal.loop-one-preserved-then-leaves_shift
loop-one-preserved-then-leaves_shift c =
    shift_passed c.args.resolved.now c.loop-one.one-index _ c.loop-one-test.true c.loop-one.cells c.loop-one.invariant
    (sym c.leaves_shift.ensures ∙ c.if-leaves_shift.true)

pub loop-one-preserved : goal.loop-one-preserved
loop-one-preserved c =
    shift_taken c.args.resolved.now c.loop-one.one-index _ c.loop-one-test.true c.loop-one.cells c.loop-one.invariant c.insert.new.self
    (sym c.leaves_shift.ensures ∙ c.if-leaves_shift.false) c.in_ok-insert.ensures.updates.0

pub returns : goal.returns
returns c = all_taken c.args.resolved.now c.loop-one.one-index c.loop-one.cells c.loop-one-test.false c.loop-one.invariant
