-- by both
use Rattle.std.specs.Prelude.{Contains}
use Rattle.std.proofs.lemmas.Result.{IfOk-weaker}
use Rattle.lrexchange.specs.StoredPositions.{position_of, positions_of}
use Rattle.lrexchange.proofs.AskedPositions.{proceeds_by_mirror}
use Rattle.lrexchange.proofs.proceeding.ask_mirror.Goals as goal

pub returns : goal.returns
returns c =
    let item = c.in-Some.item in
    IfOk-weaker c.ask_each.result _ _
    (λ b k t.
    proceeds_by_mirror c.args.grm.now c.args.graph.now (Contains (positions_of c.ask_each.new.asked.items)) (position_of c.args.position.now) item.0.0 item.1.0 c.in-Some.ensures (k t))
    c.ask_each.ensures.asked
