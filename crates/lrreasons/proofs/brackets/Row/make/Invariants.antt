use Rattle.std.proofs.Common.{◌≡◌, take}
use Rattle.std.specs.Prelude.{fold}
use Rattle.lrconflicts.specs.StoredMoves.{moves_stored}
use Rattle.lrreasons.specs.Brackets.{next_row}
use Rattle.lrreasons.specs.StoredForms.{row_of, form_words}
use Rattle.lrgrammar.specs.Symbols.{number_of}
use Rattle.lrreasons.proofs.brackets.Row.make.Given as goal

abbrev pub invariant-loop-action : goal.invariant-loop-action
invariant-loop-action l =
    row_of l.self ≡ fold (next_row l.grm l.form.dot (form_words l.grm l.form)) (row_of l.fn.self) (moves_stored number_of (take l.action-index l.moves))
