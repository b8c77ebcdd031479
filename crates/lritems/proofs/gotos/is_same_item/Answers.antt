use Rattle.std.proofs.Common.{ap, refl}
use Rattle.lrbits.proofs.EqualBits.{same_bits}
use Rattle.lritems.proofs.GotoItems.{same_numbers}
use Rattle.lritems.proofs.gotos.is_same_item.Goals as goal

pub returns-then-eq : goal.returns-then-eq
returns-then-eq g c =
    let keys = same_numbers g.T.IndexStorage.number g.T.PartialEq.eq g.met.T.IndexStorage.same c.args.mine.now c.args.key.now c.if-eq.ensures in
    let bits = same_bits c.args.own.now c.args.ctx.now c.eq-then-eq.result c.eq-then-eq.ensures in
    (λ h. rw (keys.0, keys.1, bits.0 h) refl, λ e. bits.1 (ap (λ i. i.1) e))
