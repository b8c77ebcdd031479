use Rattle.std.proofs.Common.{◌≡◌, ◌++◌, map, take}
use Rattle.std.specs.String.{string_bytes}
use Rattle.lrgrammar.specs.Symbols.{symbol_of, number_of}
use Rattle.lrreasons.specs.Words.{words_of}
use Rattle.lrreasons.proofs.words.push_symbols.Given as goal

abbrev pub invariant-loop-symbol : goal.invariant-loop-symbol
invariant-loop-symbol l =
    map string_bytes l.words.items
    ≡ map string_bytes l.fn.words.items ++ words_of l.grm (map (symbol_of number_of) (take l.symbol-index l.symbols))
