use Rattle.std.proofs.Common.{refl}
use Rattle.lritems.specs.Fingerprints.{mixed}
use Rattle.lritems.proofs.fingerprints.with_item.Goals as goal

pub returns : goal.returns
unfolding mixed
returns g c = rw (← c.from.ensures, ← c.from-2.ensures) refl
