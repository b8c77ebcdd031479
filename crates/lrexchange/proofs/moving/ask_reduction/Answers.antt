-- with a mark or without
use Rattle.std.specs.Prelude.{Contains}
use Rattle.std.proofs.lemmas.Result.{IfOk-weaker}
use Rattle.lrexchange.specs.StoredPositions.{mark_of, position_of, positions_of}
use Rattle.lrexchange.proofs.AskedPositions.{plain_reduction, marked_reduction}
use Rattle.lrexchange.proofs.moving.ask_reduction.Goals as goal

pub returns-in-Some-clause-asked : goal.returns-in-Some-clause-asked
returns-in-Some-clause-asked c =
    IfOk-weaker c.ask_each.result _ _
    (λ b k t.
    marked_reduction c.args.grm.now c.args.graph.now (Contains (positions_of c.ask_each.new.asked.items)) c.args.production.0 c.in-Some.ensures.ahead.0
    (mark_of c.in-Some.mark) (position_of c.args.position.now) c.in-Some.ensures.ahead.1 c.in-Some.ensures.mark (k t))
    c.ask_each.ensures.asked

pub returns-in-None-clause-asked : goal.returns-in-None-clause-asked
returns-in-None-clause-asked c =
    IfOk-weaker c.ask_each-in-None.result _ _
    (λ b k t.
    plain_reduction c.args.grm.now c.args.graph.now (Contains (positions_of c.ask_each-in-None.new.asked.items)) c.args.production.0 c.prod_len-len.result.0
    (position_of c.args.position.now) c.prod_len-len.ensures (k t))
    c.ask_each-in-None.ensures.asked
