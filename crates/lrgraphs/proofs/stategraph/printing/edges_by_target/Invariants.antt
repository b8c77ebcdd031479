use Rattle.std.proofs.Common.{◌≡◌, ◌++◌}
use Rattle.lrgraphs.proofs.stategraph.printing.edges_by_target.Given as goal

abbrev pub invariant-loop-symbol : goal.invariant-loop-symbol
invariant-loop-symbol g l = l.sorted.items ++ l.symbol-iterator ≡ l.edges.entries
