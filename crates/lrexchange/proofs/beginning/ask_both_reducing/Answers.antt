-- both reduce
use Rattle.std.proofs.lemmas.Result.{IfOk-weaker}
use Rattle.lrexchange.specs.StoredPositions.{position_of, positions_of}
use Rattle.lrexchange.proofs.AskedPositions.{begins_by_reductions}
use Rattle.lrexchange.proofs.beginning.ask_both_reducing.Goals as goal

pub returns : goal.returns
returns c =
    IfOk-weaker c.ask_all_own.result _ _
    (λ b k t.
    begins_by_reductions c.args.grm.now c.args.graph.now c.args.cell.0.0 c.args.cell.1.0 (positions_of c.ask_each.new.asked.items)
    (positions_of c.ask_all_own.new.asked.items) c.args.production.0 c.args.other.0 c.prod_len.result.0
    (position_of c.start-start.result) c.prod_len.ensures (rw (c.new-theirs.ensures.items, c.new-ours.ensures.items) at c.start-start.ensures)
    (c.in_ok-ask_each.ensures.asked c.if-not-branch.false) (rw c.as_slice.ensures.value at (k t)))
    c.ask_all_own.ensures
