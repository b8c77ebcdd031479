use Rattle.std.proofs.Common.{ap}
use Rattle.lritems.specs.Fingerprints.{fingerprint_of}
use Rattle.lritems.proofs.GotoItems.{left_shown, none_left}
use Rattle.lritems.proofs.fingerprints.core_fingerprint.Goals as goal

pub loop-key-init : goal.loop-key-init
loop-key-init g c = rw c.deref-key-items.ensures.value (ap fingerprint_of c.core.view_is)

pub loop-key-preserved : goal.loop-key-preserved
loop-key-preserved g c =
    let left =
    left_shown g.T.IndexStorage.number (λ v. v) c.deref-key-items.result.now c.loop-key.key-index c.loop-key-item.result c.loop-key-test.true
    c.loop-key-item.is in
    rw c.with_item-number.ensures (rw left at c.loop-key.invariant)

pub returns-clause-fingerprint : goal.returns-clause-fingerprint
returns-clause-fingerprint g c =
    let none = none_left g.T.IndexStorage.number (λ v. v) c.deref-key-items.result.now c.loop-key.key-index c.loop-key-test.false in
    rw none at c.loop-key.invariant

pub returns-clause-upwards : goal.returns-clause-upwards
returns-clause-upwards g c = rw c.core.view_is at c.core.invariant
