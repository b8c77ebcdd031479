-- by what is done
use Rattle.std.proofs.Common.{ap}
use Rattle.std.specs.Prelude.{Contains}
use Rattle.std.proofs.lemmas.Result.{IfOk-weaker}
use Rattle.lrexchange.specs.Asked.{They, Both, We, Hide, deepened}
use Rattle.lrexchange.specs.StoredActs.{act_of}
use Rattle.lrexchange.specs.StoredPositions.{symbols_of, mark_of, turn_of, position_of, positions_of}
use Rattle.lrexchange.proofs.AskedPositions.{asks_so}
use Rattle.lrexchange.proofs.acts.ask_above.Goals as goal

pub returns-in-They-clause-asked : goal.returns-in-They-clause-asked
returns-in-They-clause-asked c =
    let a = position_of c.args.position.now in
    let below = c.args.below.now in
    IfOk-weaker c.ask_them.result _ _
    (λ b k t.
    asks_so c.args.grm.now (Contains (positions_of c.ask_them.new.asked.items)) (act_of c.args.act)
    (They (turn_of c.in-They.turn) c.in-They.production.0 c.in-They.dot.0) a (position_of c.in-Some.deeper)
    (deepened a below.state.0 (symbols_of below.symbols.items)) (ap act_of c.in-They.is) (rw c.in-Some.is at c.in_ok-deeper.ensures) (k t))
    c.ask_them.ensures.asked

pub returns-in-Both-clause-asked : goal.returns-in-Both-clause-asked
returns-in-Both-clause-asked c =
    let a = position_of c.args.position.now in
    let below = c.args.below.now in
    IfOk-weaker c.ask_both.result _ _
    (λ b k t.
    asks_so c.args.grm.now (Contains (positions_of c.ask_both.new.asked.items)) (act_of c.args.act)
    (Both c.in-Both.production.0 c.in-Both.dot.0) a (position_of c.in-Some.deeper)
    (deepened a below.state.0 (symbols_of below.symbols.items)) (ap act_of c.in-Both.is) (rw c.in-Some.is at c.in_ok-deeper.ensures) (k t))
    c.ask_both.ensures.asked

pub returns-in-We-clause-asked : goal.returns-in-We-clause-asked
returns-in-We-clause-asked c =
    let a = position_of c.args.position.now in
    let below = c.args.below.now in
    IfOk-weaker c.ask_us.result _ _
    (λ b k t.
    asks_so c.args.grm.now (Contains (positions_of c.ask_us.new.asked.items)) (act_of c.args.act) (We c.in-We.production.0) a
    (position_of c.in-Some.deeper) (deepened a below.state.0 (symbols_of below.symbols.items)) (ap act_of c.in-We.is)
    (rw c.in-Some.is at c.in_ok-deeper.ensures) (k t))
    c.ask_us.ensures.asked

pub returns-in-Hide-clause-asked : goal.returns-in-Hide-clause-asked
returns-in-Hide-clause-asked c =
    let a = position_of c.args.position.now in
    let below = c.args.below.now in
    IfOk-weaker c.ask_hidden.result _ _
    (λ b k t.
    asks_so c.args.grm.now (Contains (positions_of c.ask_hidden.new.asked.items)) (act_of c.args.act)
    (Hide c.in-Hide.production.0 (mark_of c.in-Hide.mark)) a (position_of c.in-Some.deeper)
    (deepened a below.state.0 (symbols_of below.symbols.items)) (ap act_of c.in-Hide.is) (rw c.in-Some.is at c.in_ok-deeper.ensures)
    (rw c.as_slice-ours.ensures.value at (k t)))
    c.ask_hidden.ensures.asked
