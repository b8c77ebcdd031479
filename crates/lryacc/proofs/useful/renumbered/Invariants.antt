use Rattle.std.proofs.Common.{◌≡◌, map, take}
use Rattle.lrgrammar.specs.StoredParts.{part_symbol_of}
use Rattle.lryacc.specs.KeptProductions.{new_symbol}
use Rattle.lryacc.proofs.useful.renumbered.Given as goal

abbrev pub invariant-loop-symbol : goal.invariant-loop-symbol
invariant-loop-symbol l =
    map part_symbol_of l.list.items ≡ map (new_symbol l.numbers) (map part_symbol_of (take l.symbol-index l.symbols))
