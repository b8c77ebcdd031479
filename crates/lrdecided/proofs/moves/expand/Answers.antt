-- the bodies of the rule
use Rattle.lrgrammar.specs.Symbols.{symbol_of, number_of}
use Rattle.lrdecided.specs.StoredNodes.{node_of}
use Rattle.lrdecided.proofs.FoundMoves.{expands, not_none}
use Rattle.lrdecided.proofs.moves.expand.Goals as goal

pub expansions-requires-clause-some : goal.expansions-requires-clause-some
expansions-requires-clause-some c =
    not_none (symbol_of number_of) c.args.node.now.one.symbols.items _ _ (rw c.as_slice.ensures.value at c.in-Some.ensures)

pub returns : goal.returns
returns c =
    expands c.args.grm.now c.args.graph.now (node_of c.args.node.now) c.in-Some.rule.0 _ (rw c.as_slice.ensures.value at c.in-Some.ensures) c.in_ok-moves.ensures
