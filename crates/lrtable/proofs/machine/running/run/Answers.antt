use Rattle.std.proofs.Common.{◌≡◌, ℕ, sym, subst, Result}
use Rattle.std.specs.declared.alloc.AllocError.{AllocError}
use Rattle.std.specs.Result.{IfOk}
use Rattle.std.proofs.lemmas.Result.{IfOk-weaker}
use Rattle.lrspec.specs.tables.Table.{IsUncrowded}
use Rattle.lrspec.specs.tables.Machine as math
use Rattle.lrspec.specs.tables.Machine.{Answer}
use Rattle.lrspec.specs.tables.Recognition.{HasTreeIfAccepted, IsAcceptedIfSentence, HasTrees, ShiftedBeginsSentence}
use Rattle.lrtable.specs.declared.machine.runs.Run.{Run}
use Rattle.lrtable.specs.RunAnswers.{text_of, answer_of}
use Rattle.lrspec.proofs.tables.MachineTheorems as machine
use Rattle.lrspec.proofs.tables.ExactWithoutPrecedences.{recognises_without_precedences}
use Rattle.lrtable.proofs.machine.running.run.Goals as goal

pub returns-clause-never_stuck : goal.returns-clause-never_stuck
returns-clause-never_stuck g c = machine.never_stuck c.in_order.ensures.shape c.requires.table_for

pub returns-clause-shifts_taken : goal.returns-clause-shifts_taken
returns-clause-shifts_taken g c = machine.shifts_what_is_taken c.in_order.ensures.shape c.requires.table_for

pub returns-clause-one_tree : goal.returns-clause-one_tree
returns-clause-one_tree g c = machine.one_tree c.in_order.ensures.shape

pub returns-clause-recognises : goal.returns-clause-recognises
returns-clause-recognises g c =
    let k = c.requires.table_for in
    λ plain. recognises_without_precedences c.args.grm.now k.graph c.in_order.ensures.shape k.graph_of plain c.args.table.now k.table_of

-- what a run answers is what holds of the run
of_run :
    {T : Type 0} (number : T → ℕ) (P : Answer → Type 0) (r : Result (Run T) AllocError) (a : Answer)
    → IfOk r (λ x. answer_of number x ≡ a) → P a → IfOk r (λ x. P (answer_of number x))
of_run number P r a e k = IfOk-weaker r (λ x. answer_of number x ≡ a) (λ x. P (answer_of number x)) (λ x i. subst P (sym i) k) e

pub returns-clause-sound : goal.returns-clause-sound
returns-clause-sound g c =
    let number = g.T.IndexStorage.number in
    let grm = c.args.grm.now in
    let table = c.args.table.now in
    let text = text_of number c.args.text.now in
    of_run number (HasTreeIfAccepted grm text) c.drive.result (math.run grm table c.args.steps text) c.drive.ensures
    (machine.sound c.in_order.ensures.shape c.requires.table_for c.args.steps text c.requires.named)

pub returns-clause-complete : goal.returns-clause-complete
returns-clause-complete g c =
    let number = g.T.IndexStorage.number in
    let grm = c.args.grm.now in
    let table = c.args.table.now in
    let text = text_of number c.args.text.now in
    of_run number (λ a. IsUncrowded grm table → IsAcceptedIfSentence grm c.args.steps text a) c.drive.result (math.run grm table c.args.steps text)
    c.drive.ensures (λ k. machine.complete c.in_order.ensures.shape k c.args.steps text)

pub returns-clause-shifts : goal.returns-clause-shifts
returns-clause-shifts g c =
    let number = g.T.IndexStorage.number in
    let grm = c.args.grm.now in
    let table = c.args.table.now in
    let text = text_of number c.args.text.now in
    of_run number (λ a. HasTrees grm → ShiftedBeginsSentence grm text a) c.drive.result (math.run grm table c.args.steps text) c.drive.ensures
    (λ k. machine.shifts_beginnings c.in_order.ensures.shape c.requires.table_for k c.args.steps text c.requires.named)
