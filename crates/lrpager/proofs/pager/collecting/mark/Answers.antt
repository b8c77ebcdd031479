use Rattle.lrpager.proofs.MarksAdded.{mark_one}
use Rattle.lrpager.proofs.pager.collecting.mark.Goals as goal

pub returns-in_ok-push-clause-only : goal.returns-in_ok-push-clause-only
returns-in_ok-push-clause-only c =
    rw (c.set.ensures.after, c.in_ok-push.ensures.items) (mark_one c.args.marks.now c.args.todo.now.items c.args.state c.requires (c.set.ensures.changed.0 c.if-set.true))
