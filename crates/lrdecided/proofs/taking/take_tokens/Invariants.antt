-- what it comes to, it came to before
use Rattle.std.proofs.Common.{List, length}
use Rattle.lrspec.specs.grammars.Grammar as math
use Rattle.lrdecided.specs.Nodes as nodes
use Rattle.lrdecided.specs.Rules.{IsSettled}
use Rattle.lrdecided.specs.StoredNodes.{node_of}
use Rattle.lrdecided.proofs.taking.take_tokens.Given as goal

abbrev pub invariant-loop : goal.invariant-loop
invariant-loop l =
    (grm : math.Grammar) (listed : List nodes.Node) → IsSettled grm listed (node_of l.node) → IsSettled grm listed (node_of l.fn.node)

abbrev pub decreases-loop : goal.decreases-loop
decreases-loop l = length l.node.one.symbols.items
