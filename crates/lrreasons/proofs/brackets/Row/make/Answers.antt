use Rattle.std.proofs.Common.{get_or}
use Rattle.std.proofs.lemmas.List.{get_or_default}
use Rattle.lrconflicts.specs.declared.moves.Move.TheVariants as stored
use Rattle.lrconflicts.specs.StoredMoves.{move_of}
use Rattle.lrreasons.specs.Brackets.{next_row}
use Rattle.lrreasons.specs.StoredForms.{row_of, form_words}
use Rattle.lrgrammar.specs.Symbols.{number_of}
use Rattle.lrreasons.proofs.Rows.{made_more}
use Rattle.lrreasons.proofs.brackets.Row.make.Goals.{in-Shift+in_ok-shift-in-Shift, in-Reduce+in_ok-reduce-in-Reduce}
use Rattle.lrreasons.proofs.brackets.Row.make.Goals as goal

pub loop-action-preserved : goal.loop-action-preserved
loop-action-preserved c =
    let m = c.args.grm.now in
    let d = c.args.form.now.dot in
    let ws = form_words m c.args.form.now in
    let ms = c.args.moves.now in
    let i = c.loop-action.action-index in
    let l = c.loop-action-test.true in
    let x = get_or ms i stored.Shift in
    let more = made_more (move_of number_of) (next_row m d ws) (row_of c.args.self.now) (row_of c.loop-action.self) (row_of c.match-action.self)
    ms i x l (get_or_default ms i stored.Shift x l) c.loop-action.invariant in
    elim c.match-action.branch [
      | in-Shift+in_ok-shift-in-Shift w ↦ more (rw (w.self-is, w.in-Shift.is) w.in_ok-shift-in-Shift.ensures)
      | in-Reduce+in_ok-reduce-in-Reduce w ↦ more (rw (w.self-is, w.in-Reduce.is) (w.in_ok-reduce-in-Reduce.ensures d ws))
    ]
