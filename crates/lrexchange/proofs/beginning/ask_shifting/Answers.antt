-- they reduce, and we shift
use Rattle.std.specs.Prelude.{Contains}
use Rattle.std.proofs.lemmas.Result.{IfOk-weaker}
use Rattle.lrexchange.specs.StoredPositions.{position_of, positions_of}
use Rattle.lrexchange.proofs.AskedPositions.{begins_by_shift}
use Rattle.lrexchange.proofs.beginning.ask_shifting.Goals as goal

pub returns : goal.returns
returns c =
    IfOk-weaker c.ask_each.result _ _
    (λ b k t.
    begins_by_shift c.args.grm.now c.args.graph.now (Contains (positions_of c.ask_each.new.asked.items)) c.args.cell.0.0 c.args.cell.1.0
    c.args.production.0 c.prod_len.result.0 (position_of c.start-start.result) c.prod_len.ensures
    (rw (c.new-theirs.ensures.items, c.in_ok-ours.ensures) at c.start-start.ensures) (k t))
    c.ask_each.ensures.asked
