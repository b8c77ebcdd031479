use Rattle.std.proofs.Common.{ℕ, [], ◌∷◌, map}
use Rattle.std.proofs.lemmas.List.{map-append}
use Rattle.lrgrammar.specs.declared.idx.StIdx.{StIdx}
use Rattle.lrpager.proofs.MarksAdded.{mark_one}
use Rattle.lrfindings.proofs.reached.mark.Goals as goal

pub returns-in_ok-push-clause-only : goal.returns-in_ok-push-clause-only
returns-in_ok-push-clause-only c =
    let number : StIdx ℕ → ℕ = λ u. u.0 in
    rw (c.set.ensures.after, c.from.ensures, c.in_ok-push.ensures.items, map-append number c.args.todo.now.items (c.args.state ∷ []))
    (mark_one c.args.marks.now (map number c.args.todo.now.items) c.args.state.0 c.requires
    (rw c.from.ensures at (c.set.ensures.changed.0 c.if-set.true)))
