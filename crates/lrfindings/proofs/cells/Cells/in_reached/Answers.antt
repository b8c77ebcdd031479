use Rattle.std.proofs.Common.{◌∙◌, map, filter, ap}
use Rattle.std.proofs.lemmas.List.{map-id}
use Rattle.lrgrammar.specs.Bits.{bit}
use Rattle.lrverdicts.specs.Listed.{told}
use Rattle.lrfindings.specs.ReachedStates.{is_taken_away}
use Rattle.lrfindings.specs.StoredCells.{resolution}
use Rattle.lrfindings.proofs.PartedByReach.{kept_by_marks}
use Rattle.lrfindings.proofs.cells.Cells.in_reached.Goals as goal

pub returns-clause-left : goal.returns-clause-left
returns-clause-left c =
    let marks = c.in_ok-marks.marks in
    kept_by_marks (is_taken_away (map resolution c.args.self.decisions.resolved.items)) c.args.graph.now marks
    (rw c.as_slice.ensures.value at c.in_ok-marks.ensures) (λ e. e.3) told c.args.self.left.items _
    (c.in_ok-left.ensures ∙ ap (filter (λ e. bit marks e.state)) c.as_slice-2.ensures.value)

pub returns-clause-resolved : goal.returns-clause-resolved
returns-clause-resolved c =
    let marks = c.in_ok-marks.marks in
    kept_by_marks (is_taken_away (map resolution c.args.self.decisions.resolved.items)) c.args.graph.now marks
    (rw c.as_slice.ensures.value at c.in_ok-marks.ensures) (λ r. r.0.3) resolution c.args.self.decisions.resolved.items _
    (c.in_ok-resolved.ensures ∙ ap (filter (λ r. bit marks r.entry.state)) c.as_slice-4.ensures.value)

pub returns-clause-reduced : goal.returns-clause-reduced
returns-clause-reduced c =
    let marks = c.in_ok-marks.marks in
    let taken = is_taken_away (map resolution c.args.self.decisions.resolved.items) in
    rw (← map-id c.args.self.reduced.items, ← map-id c.in_ok-reduced.reduced.items)
    (kept_by_marks taken c.args.graph.now marks (rw c.as_slice.ensures.value at c.in_ok-marks.ensures) (λ m. m.0) (λ m. m) c.args.self.reduced.items _
    (c.in_ok-reduced.ensures ∙ ap (filter (λ m. bit marks m.0)) c.as_slice-3.ensures.value))
