use Rattle.std.proofs.Common.{◌<◌, length, refl}
use Rattle.std.proofs.lemmas.List.Elements.{All-get_or}
use Rattle.lrrows.proofs.FirstLooking.{item_looks, item_passed, none_looks}
use Rattle.lrrows.proofs.completes.least_at.Goals as goal

pub get-requires : goal.get-requires
get-requires g c =
    rw c.loop-pidx-item.is (All-get_or (λ x. c.args.token < length x.1.now) c.args.completes.now c.loop-pidx.pidx-index c.loop-pidx-item.result c.loop-pidx-test.true c.requires.bits)

pub loop-pidx-init : goal.loop-pidx-init
loop-pidx-init g c = refl

pub returns-then-get : goal.returns-then-get
returns-then-get g c =
    item_looks (λ x. (g.T.IndexStorage.number x.0.0, x.1.now)) c.args.completes.now
    c.loop-pidx.pidx-index c.args.token c.loop-pidx-item.result
    c.get.result c.loop-pidx-test.true c.loop-pidx-item.is c.get.ensures.value
    c.if-get.true c.loop-pidx.invariant

pub loop-pidx-preserved : goal.loop-pidx-preserved
loop-pidx-preserved g c =
    item_passed (λ x. (g.T.IndexStorage.number x.0.0, x.1.now)) c.args.completes.now
    c.loop-pidx.pidx-index c.args.token c.loop-pidx-item.result
    c.get.result c.loop-pidx-test.true c.loop-pidx-item.is c.get.ensures.value
    c.if-get.false c.loop-pidx.invariant

pub returns : goal.returns
returns g c =
    none_looks (λ x. (g.T.IndexStorage.number x.0.0, x.1.now)) c.args.completes.now
    c.loop-pidx.pidx-index c.args.token c.loop-pidx-test.false
    c.loop-pidx.invariant
