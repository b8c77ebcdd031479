-- a turn for each position
use Rattle.std.proofs.Common.{refl}
use Rattle.lrclosing.proofs.SymbolsBehindDots.{left_at, left_none}
use Rattle.lrexchange.specs.Exchanges.{IsListed}
use Rattle.lrexchange.specs.Positions.{Position}
use Rattle.lrexchange.specs.StoredPositions.{position_of, positions_of}
use Rattle.lrexchange.proofs.AskedInTurn.{begin_all, next_all, end_all}
use Rattle.lrkept.proofs.checking.are_listed.Goals as goal

pub loop-position-init : goal.loop-position-init
loop-position-init c =
    begin_all (λ (a : Position). IsListed c.args.graph.now (positions_of c.args.listing.now.positions.items) c.args.bound a) (positions_of c.args.positions.now)

pub loop-position-preserved : goal.loop-position-preserved
loop-position-preserved c =
    let Listed = λ (a : Position). IsListed c.args.graph.now (positions_of c.args.listing.now.positions.items) c.args.bound a in
    let x = c.position-item.result in
    let left = left_at position_of c.args.positions.now c.loop-position.position-index x x c.loop-position-test.true c.position-item.is refl in
    next_all Listed Listed (positions_of c.args.positions.now) _ (position_of x) (rw left at c.loop-position.invariant) (λ a k. k)
    (c.in_ok-has.ensures c.if-not-branch.false)

pub returns : goal.returns
returns c = λ t a k.
    end_all (λ (a : Position). IsListed c.args.graph.now (positions_of c.args.listing.now.positions.items) c.args.bound a) (positions_of c.args.positions.now) _
    (left_none position_of c.args.positions.now c.loop-position.position-index c.loop-position-test.false) c.loop-position.invariant a k
