use Rattle.std.proofs.Common.{◌≡◌, ◌≤◌, ℕ, length, ap, ◌∙◌, subst, arith}
use Rattle.std.proofs.lemmas.List.{length-map}
use Rattle.lrspec.specs.tables.Recognition.{HasTrees, ShiftsBeginnings, shifted}
use Rattle.lrspec.proofs.tables.MachineTheorems.{shifts_beginnings}
use Rattle.lrgrammar.specs.declared.idx.TIdx.{TIdx}
use Rattle.lrspec.specs.tables.Machine.{run}
use Rattle.lrparsing.specs.Machines.{Tabled, numbers}
use Rattle.lrparsing.proofs.machines.Machine.shifted.Goals as goal

pub returns-in_err-ran-clause-begins : goal.returns-in_err-ran-clause-begins
returns-in_err-ran-clause-begins c =
    subst (λ (m : Tabled). HasTrees m.grammar → ShiftsBeginnings m.grammar m.table) c.self.view_is
    (shifts_beginnings c.in_order.ensures.shape c.self.invariant)

pub returns-clause-begins : goal.returns-clause-begins
returns-clause-begins c =
    subst (λ (m : Tabled). HasTrees m.grammar → ShiftsBeginnings m.grammar m.table) c.self.view_is
    (shifts_beginnings c.in_order.ensures.shape c.self.invariant)

pub returns-clause-within : goal.returns-clause-within
returns-clause-within c =
    let text = numbers c.args.text.now in
    let ran = run c.self.inside.grm c.self.inside.table c.self.inside.steps text in
    let count : c.shifted.result ≡ shifted ran = c.shifted.ensures ∙ ap shifted c.in_ok-ran.ensures.answer in
    let named = rw (← c.self.view_is) at c.requires in
    let within : shifted ran ≤ length text = (c.in_ok-ran.ensures.shifts_taken c.self.inside.steps text named).0 in
    omega (arith, count, within, length-map c.args.text.now (λ (t : TIdx ℕ). t.0))
