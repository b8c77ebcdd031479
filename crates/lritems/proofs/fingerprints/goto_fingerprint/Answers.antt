use Rattle.std.proofs.Common.{refl}
use Rattle.lritems.proofs.GotoItems.{left_shown, none_left}
use Rattle.lritems.proofs.fingerprints.goto_fingerprint.Goals as goal

pub loop-key-init : goal.loop-key-init
loop-key-init g c = rw (c.deref-key-items.ensures.value, c.with_item-number.ensures) refl

pub loop-key-preserved : goal.loop-key-preserved
loop-key-preserved g c =
    let left =
    left_shown g.T.IndexStorage.number (λ r. r.now) c.deref-key-items.result.now c.loop-key.key-index c.loop-key-item.result c.loop-key-test.true
    c.loop-key-item.is in
    rw c.with_item-number-in-loop-key.ensures (rw left at c.loop-key.invariant)

pub returns : goal.returns
returns g c =
    let none = none_left g.T.IndexStorage.number (λ r. r.now) c.deref-key-items.result.now c.loop-key.key-index c.loop-key-test.false in
    rw none at c.loop-key.invariant
