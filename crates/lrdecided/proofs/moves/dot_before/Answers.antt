-- the before
use Rattle.std.proofs.Common.{arith}
use Rattle.lrgrammar.proofs.Turns.{has_index}
use Rattle.lrdecided.proofs.moves.dot_before.Goals as goal

pub unwrap-requires : goal.unwrap-requires
unwrap-requires c =
    has_index _ _ _ c.from_usize.result c.from_usize.ensures (omega (arith, c.to_usize-place.ensures.number, c.to_usize-place.ensures.within))
