use Rattle.std.proofs.Common.{◌≡◌, true, map, take}
use Rattle.lrgrammar.specs.StoredParts.{part_symbol_of}
use Rattle.lryacc.specs.UsefulRules.{has_all}
use Rattle.lryacc.proofs.useful.Search.lacking_among.Given as goal

abbrev pub invariant-loop-symbol : goal.invariant-loop-symbol
invariant-loop-symbol l =
    has_all l.self.found.items (map part_symbol_of (take l.symbol-index l.symbols)) ≡ true
