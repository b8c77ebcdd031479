-- by the closed chart
use Rattle.std.proofs.Common.{ℕ, map, subst}
use Rattle.lrgrammar.specs.declared.idx.StIdx.{StIdx}
use Rattle.lrcharts.specs.Charts.{LacksWhole}
use Rattle.lrcharts.proofs.LaidRows.{dead_end}
use Rattle.lrcharts.proofs.ways.is_dead_end.Goals as goal

pub returns : goal.returns
returns c = λ known.
    let g = c.args.grm.now in
    let h = c.args.graph.now in
    let m = c.args.machine in
    dead_end g h c.in-Some.chart c.in_order.ensures.shape c.args.text.now m (c.in_ok-is_known.ensures known)
    (subst (λ t. LacksWhole g h c.in-Some.chart (map (λ (s : StIdx ℕ). s.0) m.stack.items) t) c.tokens_left-left.ensures
    (c.lacks_whole.ensures c.if-not-lacks_whole.false))
