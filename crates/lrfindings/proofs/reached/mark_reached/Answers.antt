use Rattle.std.proofs.Common.{ℕ, [], ◌∷◌, ◌∙◌, map, arith, ap}
use Rattle.std.proofs.lemmas.List.{nil_from_length, map-append}
use Rattle.lrgrammar.specs.declared.idx.StIdx.{StIdx}
use Rattle.lrfindings.specs.Cells.{has_cell}
use Rattle.lrfindings.proofs.ReachedMarks.{marking_start, marking_turn, marking_end, next_below}
use Rattle.lrfindings.proofs.reached.mark_reached.Goals as goal

pub loop-state-init : goal.loop-state-init
loop-state-init c =
    marking_start (has_cell c.args.taken.now) c.args.graph.now _ _ _ _ (rw (c.from.ensures, c.all_states_len.ensures) at c.in_ok-marks.ensures.bits) c.start_state.ensures
    (rw c.new-todo.ensures.items at c.in_ok-mark.ensures.only) c.in_ok-mark.ensures.marked

pub mark_targets-requires-clause-from : goal.mark_targets-requires-clause-from
mark_targets-requires-clause-from c =
    let number : StIdx ℕ → ℕ = λ u. u.0 in
    let popped = ap (map number) c.in-Some.ensures.items ∙ map-append number c.pop.new.self.items (c.in-Some.state ∷ []) in
    next_below (has_cell c.args.taken.now) c.args.graph.now _ c.in-Some.state.0 _ _ c.loop-state.invariant popped

pub loop-state-preserved : goal.loop-state-preserved
loop-state-preserved c =
    let number : StIdx ℕ → ℕ = λ u. u.0 in
    let popped = ap (map number) c.in-Some.ensures.items ∙ map-append number c.pop.new.self.items (c.in-Some.state ∷ []) in
    let one = c.in_ok-mark_targets.ensures in
    marking_turn (has_cell c.args.taken.now) c.args.graph.now _ _ c.in-Some.state.0 _ _ _ c.loop-state.invariant popped one.only one.marked

pub returns : goal.returns
returns c =
    let number : StIdx ℕ → ℕ = λ u. u.0 in
    let todo = c.loop-state.todo in
    marking_end (has_cell c.args.taken.now) c.args.graph.now _ _ c.loop-state.invariant
    (ap (map number) (nil_from_length todo.items (omega (arith, todo.ok.0, c.in_default.ensures.cases.0))))
