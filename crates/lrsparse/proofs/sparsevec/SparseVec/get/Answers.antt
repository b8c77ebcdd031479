use Rattle.std.proofs.Common.{◌≡◌, ◌∙◌, ◌+◌, ℕ, List, None, sym, ap, arith, get_or}
use Rattle.std.specs.Prelude.{unwrap_or}
use Rattle.std.specs.List.{slice_get}
use Rattle.std.proofs.lemmas.Option.{unwrap_or-slice_get, get_or_from_slice_get}
use Rattle.lrsparse.specs.Listed.{listed}
use Rattle.lrsparse.specs.Places.{unowned, number_at}
use Rattle.lrsparse.proofs.PlacedRow.{number_of_owner, number_of_other, number_of_none}
use Rattle.lrsparse.proofs.RowsInList.{value_read, value_past}
use Rattle.lrsparse.proofs.sparsevec.SparseVec.get.Goals as goal
use Rattle.lrsparse.proofs.sparsevec.SparseVec.get.Goals.{in_default-via-in-Some+else-entry-row, in_default-via-in_default}

-- where the list has no entry, the other one is read
get_or_from_none : {X : Type 0} (xs : List X) (place : ℕ) (d : X) → slice_get xs place ≡ None → get_or xs place d ≡ d
get_or_from_none xs place d none = sym (unwrap_or-slice_get xs place d) ∙ ap (λ o. unwrap_or o d) none

pub returns-in_err-displacement : goal.returns-in_err-displacement
returns-in_err-displacement c =
    let m = c.self.inside in
    let past = rw c.deref.ensures.value at c.in_err-displacement.ensures.lookup.3 in
    c.from_residual.ensures
    ∙ rw (← c.self.view_is) (sym (value_past (listed m.list) m.empty m.cols m.displacements.items c.args.row c.args.col past c.if-col-self.false))

pub returns-in-Some : goal.returns-in-Some
returns-in-Some c =
    let m = c.self.inside in
    let there = rw c.deref.ensures.value at c.in_ok-displacement.ensures.lookup.3 in
    let stands = get_or_from_slice_get (listed m.list) (c.in_ok-displacement.field-0.now + c.args.col) c.in-Some.entry (unowned m.empty) (sym c.get-2.ensures ∙ c.in-Some.is) in
    rw (← c.self.view_is) (sym (value_read (listed m.list) m.empty m.cols m.displacements.items c.args.row c.args.col
    c.in_ok-displacement.field-0.now c.in-Some.entry.number there.0 c.if-col-self.false (there.1 0)
    (rw stands (number_of_owner m.empty c.args.row c.in-Some.entry c.if-entry-row.true))))

pub returns-in_default : goal.returns-in_default
returns-in_default c =
    let m = c.self.inside in
    let place = c.in_ok-displacement.field-0.now + c.args.col in
    let there = rw c.deref.ensures.value at c.in_ok-displacement.ensures.lookup.3 in
    let none : number_at (listed m.list) m.empty c.args.row place ≡ m.empty = elim c.in_default.branch [
      | in_default-via-in-Some+else-entry-row w ↦
          rw (get_or_from_slice_get (listed m.list) place w.in-Some.entry (unowned m.empty) (sym c.get-2.ensures ∙ w.in-Some.is))
          (number_of_other m.empty c.args.row w.in-Some.entry w.if-entry-row.false)
      | in_default-via-in_default w ↦
          rw (get_or_from_none (listed m.list) place (unowned m.empty) (sym c.get-2.ensures ∙ w.in_default.is)) (number_of_none m.empty c.args.row)
    ] in
    rw (← c.self.view_is) (sym (value_read (listed m.list) m.empty m.cols m.displacements.items c.args.row c.args.col
    c.in_ok-displacement.field-0.now m.empty there.0 c.if-col-self.false (there.1 0) none))
