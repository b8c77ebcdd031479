-- the items so far are open
use Rattle.lritems.specs.ItemsOf.{items_of}
use Rattle.lrspec.specs.merging.Graph.{core_of}
use Rattle.lrgrammar.specs.Symbols.{number_of}
use Rattle.lrexchange.specs.StoredPositions.{position_of, positions_of}
use Rattle.lrexchange.proofs.ToppedStacks.{HasOpenBut}
use Rattle.lrexchange.proofs.tops.ask_open.Given as goal

abbrev pub invariant-loop-key : goal.invariant-loop-key
invariant-loop-key l =
    HasOpenBut (core_of l.graph l.fn.state.0) (items_of number_of l.key-iterator) (position_of l.position) (positions_of l.asked.items)
