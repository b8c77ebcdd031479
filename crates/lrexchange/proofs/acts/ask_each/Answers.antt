-- above each stack
use Rattle.std.specs.Prelude.{Contains}
use Rattle.std.proofs.lemmas.Result.{IfOk-weaker}
use Rattle.lrexchange.specs.StoredActs.{act_of}
use Rattle.lrexchange.specs.StoredPositions.{position_of, positions_of, belows_of}
use Rattle.lrexchange.proofs.AskedPositions.{asked_above_each}
use Rattle.lrexchange.proofs.acts.ask_each.Goals as goal

pub returns-clause-asked : goal.returns-clause-asked
returns-clause-asked c =
    IfOk-weaker c.ask_above_all.result _ _
    (λ b k t.
    asked_above_each c.args.grm.now c.args.graph.now (Contains (positions_of c.ask_above_all.new.asked.items)) (act_of c.args.act)
    (position_of c.args.position.now) (belows_of c.in-Some.belows.items) (rw c.in-Some.is at c.in_ok-belows.ensures) (rw c.as_slice.ensures.value at (k t)))
    c.ask_above_all.ensures.asked
