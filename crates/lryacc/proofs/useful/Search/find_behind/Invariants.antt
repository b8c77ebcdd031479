use Rattle.std.proofs.Common.{map}
use Rattle.lrgrammar.specs.StoredParts.{part_symbol_of}
use Rattle.lryacc.specs.UsefulRules.{FindsAmong}
use Rattle.lryacc.proofs.useful.Search.find_behind.Given as goal

abbrev pub invariant-loop-symbol : goal.invariant-loop-symbol
invariant-loop-symbol l =
    FindsAmong (map part_symbol_of l.symbol-items) l.initial.self.found.items l.self.found.items
