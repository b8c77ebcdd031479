-- those so far are the same
use Rattle.lrexchange.specs.Sinking.{IsCommon}
use Rattle.lrexchange.specs.StoredPositions.{symbols_of}
use Rattle.lrexchange.proofs.sinking.common.Given as goal

abbrev pub invariant-loop-i : goal.invariant-loop-i
invariant-loop-i l =
    IsCommon l.graph l.fn.from.0 l.state.0 l.i (symbols_of l.theirs) (symbols_of l.ours)
