-- by the answer
use Rattle.std.specs.Prelude.{Contains}
use Rattle.std.proofs.lemmas.Result.{IfOk-weaker}
use Rattle.lrexchange.specs.StoredPositions.{position_of, positions_of}
use Rattle.lrexchange.proofs.AskedPositions.{proceeds_by_step, proceeds_by_read}
use Rattle.lrexchange.proofs.proceeding.ask_by.Goals as goal

pub returns-in-Step : goal.returns-in-Step
returns-in-Step c =
    IfOk-weaker c.ask_step.result _ _
    (λ b k t.
    proceeds_by_step c.args.grm.now c.args.graph.now (Contains (positions_of c.ask_step.new.asked.items)) (position_of c.args.position.now) (k t))
    c.ask_step.ensures

pub returns-in-Read : goal.returns-in-Read
returns-in-Read c =
    IfOk-weaker c.ask_read.result _ _
    (λ b k t.
    proceeds_by_read c.args.grm.now c.args.graph.now (Contains (positions_of c.ask_read.new.asked.items)) (position_of c.args.position.now) (k t))
    c.ask_read.ensures
