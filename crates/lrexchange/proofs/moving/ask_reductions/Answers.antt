-- those that look at the token
use Rattle.std.proofs.Common.{map}
use Rattle.std.specs.Prelude.{Contains}
use Rattle.std.proofs.lemmas.Result.{IfOk-weaker}
use Rattle.lrexchange.specs.StoredPositions.{position_of, positions_of}
use Rattle.lrexchange.proofs.ToppedStacks.{reductions_from, no_reductions}
use Rattle.lrexchange.proofs.moving.ask_reductions.Goals as goal

pub returns-in_default-clause-asked : goal.returns-in_default-clause-asked
returns-in_default-clause-asked c = λ t.
    no_reductions c.args.graph.now (Contains (positions_of c.args.asked.now.items)) (position_of c.args.position.now) c.args.grm.now c.args.token.0
    (rw c.as_slice.ensures.value at c.in_default.ensures)

pub returns-clause-asked : goal.returns-clause-asked
returns-clause-asked c =
    IfOk-weaker c.ask_reductions_by.result _ _
    (λ b k t.
    reductions_from c.args.graph.now (Contains (positions_of c.ask_reductions_by.new.asked.items)) (position_of c.args.position.now) c.args.grm.now
    c.args.token.0 c.in-Some.top.0 (map (λ p. p.0) c.in_ok-productions.productions.items) (rw c.as_slice.ensures.value at c.in-Some.ensures)
    c.in_ok-productions.ensures (rw c.as_slice-those.ensures.value at (k t)))
    c.ask_reductions_by.ensures.asked
