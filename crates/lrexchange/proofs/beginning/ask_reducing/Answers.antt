-- they shift, and we reduce
use Rattle.std.specs.Prelude.{Contains}
use Rattle.std.proofs.lemmas.Result.{IfOk-weaker}
use Rattle.lrexchange.specs.StoredPositions.{position_of, positions_of}
use Rattle.lrexchange.proofs.AskedPositions.{begins_by_reduction}
use Rattle.lrexchange.proofs.beginning.ask_reducing.Goals as goal

pub returns : goal.returns
returns c =
    IfOk-weaker c.ask_each.result _ _
    (λ b k t.
    begins_by_reduction c.args.grm.now c.args.graph.now (Contains (positions_of c.ask_each.new.asked.items)) c.args.cell.0.0 c.args.cell.1.0
    c.args.production.0 (position_of c.start-start.result) (rw (c.in_ok-theirs.ensures, c.new-ours.ensures.items) at c.start-start.ensures) (k t))
    c.ask_each.ensures.asked
