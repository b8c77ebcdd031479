-- the complete ones of the items so far are listed
use Rattle.lritems.specs.ItemsOf.{items_of}
use Rattle.lrspec.specs.merging.Graph.{closed_of}
use Rattle.lrgrammar.specs.Symbols.{number_of}
use Rattle.lrdecided.specs.Contenders.{completes_of}
use Rattle.lrdecided.proofs.FoundContenders.{HasCompletesBut}
use Rattle.lrdecided.proofs.contending.completes.Given as goal

abbrev pub invariant-loop-key : goal.invariant-loop-key
invariant-loop-key l =
    HasCompletesBut l.grm (closed_of l.graph l.fn.state.0) (items_of number_of l.key-iterator) (completes_of l.completes.items)
