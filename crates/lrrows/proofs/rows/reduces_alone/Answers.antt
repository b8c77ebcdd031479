use Rattle.std.proofs.Common.{refl}
use Rattle.std.proofs.lemmas.List.{take_all}
use Rattle.std.proofs.lemmas.List.Elements.{All-nil, All-more}
use Rattle.lrrows.specs.StoredActions.{action_numbered, NeitherShiftsNorAccepts}
use Rattle.lrrows.proofs.ReducedRows.{no_shift}
use Rattle.lrrows.proofs.rows.reduces_alone.Goals as goal
use Rattle.lrrows.proofs.rows.reduces_alone.Goals.{in-Shift, in_default}

pub loop-number-init : goal.loop-number-init
loop-number-init g c = All-nil (λ e. NeitherShiftsNorAccepts (action_numbered e.1))

pub loop-number-preserved : goal.loop-number-preserved
loop-number-preserved g c =
    All-more (λ e. NeitherShiftsNorAccepts (action_numbered e.1)) c.args.row.now c.loop-number.number-index (0, 0) c.loop-number-test.true c.loop-number.invariant
    (elim c.match-matches.branch [
      | in-Shift w ↦ cc
      | in_default w ↦ rw (← c.action_of_number.ensures) (no_shift g.T.IndexStorage.number c.action_of_number.result w.in_default.not-Shift w.in_default.not-Accept)
    ])

pub returns : goal.returns
returns g c =
    let all = take_all c.loop-number.number-index c.args.row.now c.loop-number-test.false in
    (λ e. rw all at c.loop-number.invariant, λ h. refl)
