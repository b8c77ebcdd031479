-- the sides of the items so far are listed
use Rattle.lritems.specs.ItemsOf.{items_of}
use Rattle.lrspec.specs.merging.Graph.{closed_of}
use Rattle.lrgrammar.specs.Symbols.{number_of}
use Rattle.lrdecided.specs.StoredNodes.{sides_of}
use Rattle.lrdecided.proofs.FoundStarts.{HasSidesBut}
use Rattle.lrdecided.proofs.starts.shifts.Given as goal

abbrev pub invariant-loop-key : goal.invariant-loop-key
invariant-loop-key l =
    HasSidesBut l.grm (closed_of l.graph l.fn.state.0) (items_of number_of l.key-iterator) l.token.0 (sides_of l.sides.items)
