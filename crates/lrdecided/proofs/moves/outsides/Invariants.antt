-- the nodes of the items so far are there
use Rattle.std.proofs.Common.{drop}
use Rattle.lrsearches.specs.StoredUses.{keys_of}
use Rattle.lrgrammar.specs.Symbols.{number_of}
use Rattle.lrdecided.specs.StoredNodes.{node_of, nodes_of}
use Rattle.lrdecided.proofs.FoundMoves.{HasOutsideBut}
use Rattle.lrdecided.proofs.moves.outsides.Given as goal

abbrev pub invariant-loop-item : goal.invariant-loop-item
invariant-loop-item l =
    HasOutsideBut l.graph l.grm (node_of l.node) l.rule.0 (keys_of number_of l.row) (keys_of number_of (drop l.item-index l.row)) (nodes_of l.moves.items)
