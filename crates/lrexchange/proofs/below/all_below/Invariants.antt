-- these are below the state, as many steps back as there were turns
use Rattle.lrexchange.specs.Asked.{AreBelow}
use Rattle.lrexchange.specs.StoredPositions.{belows_of}
use Rattle.lrexchange.proofs.below.all_below.Given as goal

abbrev pub invariant-loop : goal.invariant-loop
invariant-loop l =
    AreBelow l.graph l.fn.state.0 (belows_of l.belows.items)
