use Rattle.std.proofs.Common.{refl}
use Rattle.lritems.proofs.fingerprints.itemset_fingerprint.Goals as goal

pub loop-key-init : goal.loop-key-init
loop-key-init g c = rw c.into_iter-key-iterator.ensures.into_iter_gives.0 refl

pub loop-key-preserved : goal.loop-key-preserved
loop-key-preserved g c =
    let left = rw c.in-Some.ensures.steps at c.loop-key.invariant in
    rw c.with_item-number.ensures left

pub returns : goal.returns
returns g c = rw c.in-None.ensures.steps.0 at c.loop-key.invariant
