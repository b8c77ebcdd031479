-- on the token of the turn
use Rattle.std.proofs.Common.{ap}
use Rattle.std.specs.Prelude.{Contains}
use Rattle.std.proofs.lemmas.Result.{IfOk-weaker}
use Rattle.lrexchange.specs.StoredPositions.{turn_of, position_of, positions_of}
use Rattle.lrexchange.proofs.AskedPositions.{proceeds_ahead, proceeds_before}
use Rattle.lrexchange.proofs.proceeding.ask_moves.Goals as goal

pub returns-in-Ahead : goal.returns-in-Ahead
returns-in-Ahead c =
    IfOk-weaker c.ask_ahead.result _ _
    (λ b k t.
    proceeds_ahead c.args.grm.now c.args.graph.now (Contains (positions_of c.ask_ahead.new.asked.items)) (position_of c.args.position.now)
    c.in-Ahead.token.0 (ap turn_of c.in-Ahead.is) (k t))
    c.ask_ahead.ensures

pub returns-in-Before : goal.returns-in-Before
returns-in-Before c =
    IfOk-weaker c.ask_before.result _ _
    (λ b k t.
    proceeds_before c.args.grm.now c.args.graph.now (Contains (positions_of c.ask_before.new.asked.items)) (position_of c.args.position.now)
    c.in-Before.token.0 (ap turn_of c.in-Before.is) (k t))
    c.ask_before.ensures
