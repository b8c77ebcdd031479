use Rattle.std.proofs.Common.{◌≡◌, map, take}
use Rattle.lrspec.specs.texts.Parts.{shifted}
use Rattle.lrtext.specs.StoredParts.{part_symbol_of}
use Rattle.lrgrammar.specs.Symbols.{symbol_of}
use Rattle.lrgrammar.proofs.grammar.make.body.Given as goal

abbrev pub invariant-loop-symbol : goal.invariant-loop-symbol
invariant-loop-symbol g l =
    map (symbol_of g.T.IndexStorage.number) l.symbols.items ≡ map shifted (map part_symbol_of (take l.symbol-index l.prod.symbols.items))
