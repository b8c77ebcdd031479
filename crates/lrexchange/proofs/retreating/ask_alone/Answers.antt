-- by the answer
use Rattle.std.specs.Prelude.{Contains}
use Rattle.std.proofs.lemmas.Result.{IfOk-weaker}
use Rattle.lrexchange.specs.StoredPositions.{position_of, positions_of}
use Rattle.lrexchange.proofs.AskedPositions.{retreats_by_own, retreats_by_unmark}
use Rattle.lrexchange.proofs.retreating.ask_alone.Goals as goal

pub returns-in-Own : goal.returns-in-Own
returns-in-Own c =
    IfOk-weaker c.ask_each.result _ _
    (λ b k t.
    retreats_by_own c.args.grm.now c.args.graph.now (Contains (positions_of c.ask_each.new.asked.items)) c.in-Own.production.0
    (position_of c.args.position.now) (k t))
    c.ask_each.ensures.asked

pub returns-in-Unmark : goal.returns-in-Unmark
returns-in-Unmark c =
    IfOk-weaker c.ask_unmarked.result _ _
    (λ b k t.
    retreats_by_unmark c.args.grm.now c.args.graph.now (Contains (positions_of c.ask_unmarked.new.asked.items)) (position_of c.args.position.now) (k t))
    c.ask_unmarked.ensures
