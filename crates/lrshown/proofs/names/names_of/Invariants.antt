-- the names of those so far
use Rattle.std.proofs.Common.{◌≡◌, map, take}
use Rattle.lrshown.specs.BracketTexts.{symbol_text}
use Rattle.lrshown.proofs.names.names_of.Given as goal

abbrev pub invariant-loop-symbol : goal.invariant-loop-symbol
invariant-loop-symbol l = map (λ n. n.now) l.names.items ≡ map (symbol_text l.file) (take l.symbol-index l.symbols)
