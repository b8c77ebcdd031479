-- a turn for each position
use Rattle.std.proofs.Common.{refl}
use Rattle.std.specs.Prelude.{Contains}
use Rattle.lrclosing.proofs.SymbolsBehindDots.{left_at, left_none}
use Rattle.lrexchange.specs.Exchanges.{EachOwn}
use Rattle.lrexchange.specs.Positions.{Position}
use Rattle.lrexchange.specs.StoredPositions.{position_of, positions_of}
use Rattle.lrexchange.proofs.AskedInTurn.{begin_all, next_all, end_all}
use Rattle.lrexchange.proofs.GrowingAnswers.{own_more}
use Rattle.lrexchange.proofs.beginning.ask_all_own.Goals as goal

pub loop-position-init : goal.loop-position-init
loop-position-init c =
    begin_all (λ (a : Position). EachOwn c.args.grm.now c.args.graph.now (Contains (positions_of c.args.asked.now.items)) c.args.production.0 a)
    (positions_of c.args.positions.now)

pub loop-position-preserved : goal.loop-position-preserved
loop-position-preserved c =
    let grm = c.args.grm.now in
    let h = c.args.graph.now in
    let p = c.args.production.0 in
    let old = positions_of c.loop-position.asked.items in
    let new = positions_of c.ask_each.new.asked.items in
    let x = c.position-item.result in
    let left = left_at position_of c.args.positions.now c.loop-position.position-index x x c.loop-position-test.true c.position-item.is refl in
    next_all (λ (a : Position). EachOwn grm h (Contains old) p a) (λ (a : Position). EachOwn grm h (Contains new) p a) (positions_of c.args.positions.now) _
    (position_of x) (rw left at c.loop-position.invariant) (λ a k. own_more (Contains old) (Contains new) c.in_ok-ask_each.ensures.kept grm h p a k)
    (c.in_ok-ask_each.ensures.asked c.if-not-branch.false)

pub returns : goal.returns
returns c = λ t a k.
    end_all (λ (a : Position). EachOwn c.args.grm.now c.args.graph.now (Contains (positions_of c.loop-position.asked.items)) c.args.production.0 a)
    (positions_of c.args.positions.now) _ (left_none position_of c.args.positions.now c.loop-position.position-index c.loop-position-test.false)
    c.loop-position.invariant a k
