-- before the first turn
use Rattle.std.proofs.Common.{arith}
use Rattle.lrcharts.proofs.BitsInTurn.{set_within, none_done}
use Rattle.lrcharts.proofs.closedness.has_ends.Goals as goal

pub loop-to-init : goal.loop-to-init
loop-to-init c =
    rw c.into_iter-to-iterator.ensures.into_iter_gives
    (none_done _ _ _ (λ k set. (c.iter_set_bits-to-items.ensures.members k).1
    (omega arith, omega (arith, set_within c.args.ends.now k set, c.len.ensures.number), set)))
