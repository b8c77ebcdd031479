-- the productions of the items so far are listed
use Rattle.std.proofs.Common.{map}
use Rattle.lritems.specs.ItemsOf.{items_of}
use Rattle.lrspec.specs.merging.Graph.{closed_of}
use Rattle.lrgrammar.specs.Symbols.{number_of}
use Rattle.lrexchange.proofs.ToppedStacks.{HasReductionsBut}
use Rattle.lrexchange.proofs.tops.reductions_on.Given as goal

abbrev pub invariant-loop-key : goal.invariant-loop-key
invariant-loop-key l =
    HasReductionsBut l.grm (closed_of l.graph l.fn.state.0) (items_of number_of l.key-iterator) l.token.0 (map (λ p. p.0) l.productions.items)
