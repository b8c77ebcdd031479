use Rattle.std.proofs.Common.{arith}
use Rattle.std.proofs.lemmas.List.{nil_from_length}
use Rattle.lrpager.proofs.ReachedMarks.{marking_start, marking_turn, marking_end, next_below}
use Rattle.lrpager.proofs.pager.collecting.mark_reached.Goals as goal

pub loop-k-init : goal.loop-k-init
loop-k-init g c =
    marking_start c.args.drafts.now _ _ _ c.in_ok-marks.ensures.bits (rw c.new-todo.ensures.items at c.in_ok-mark.ensures.only) c.in_ok-mark.ensures.marked

pub edges_at-requires : goal.edges_at-requires
edges_at-requires g c = next_below c.args.drafts.now _ c.in-Some.k _ _ c.loop-k.invariant c.in-Some.ensures.items

pub loop-k-preserved : goal.loop-k-preserved
loop-k-preserved g c =
    let one = c.in_ok-mark_targets.ensures in
    marking_turn c.args.drafts.now _ _ c.in-Some.k _ _ _ _ c.loop-k.invariant c.in-Some.ensures.items c.edges_at.ensures.edges one.only one.marked

pub returns : goal.returns
returns g c =
    let todo = c.loop-k.todo in
    marking_end c.args.drafts.now _ _ c.loop-k.invariant (nil_from_length todo.items (omega (arith, todo.ok.0, c.in_default.ensures.cases.0)))
