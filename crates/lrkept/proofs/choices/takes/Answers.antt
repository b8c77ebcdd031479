-- by both moves
use Rattle.std.proofs.Common.{◌==◌, refl}
use Rattle.lrlosses.specs.Losses as loss
use Rattle.lrlosses.proofs.WalkedSteps.{takes_reduction}
use Rattle.lrkept.proofs.TakenCells.{same_numbers}
use Rattle.lrkept.proofs.choices.takes.Goals as goal

pub returns-in-Shift-Shift : goal.returns-in-Shift-Shift
returns-in-Shift-Shift c = (λ _. rw (c.in-Shift-Shift.is-0, c.in-Shift-Shift.is-1) loss.Takes.shift, λ _. refl)

pub returns-in-Reduce-Reduce : goal.returns-in-Reduce-Reduce
returns-in-Reduce-Reduce c =
    let one = c.in-Reduce-Reduce.one.0 in
    let other = c.in-Reduce-Reduce.other.0 in
    rw (c.in-Reduce-Reduce.is-0, c.in-Reduce-Reduce.is-1, c.eq.ensures) (takes_reduction one other (one == other) (same_numbers one other))
