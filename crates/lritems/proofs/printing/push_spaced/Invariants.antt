use Rattle.std.proofs.Common.{◌≡◌, ◌++◌, map, take}
use Rattle.std.specs.String.{string_bytes}
use Rattle.lrspec.specs.texts.PrintedTexts.{spaced}
use Rattle.lrgrammar.specs.Symbols.{symbol_of}
use Rattle.lritems.proofs.printing.push_spaced.Given as goal

abbrev pub invariant-loop-symbol : goal.invariant-loop-symbol
invariant-loop-symbol g l =
    string_bytes l.text ≡ string_bytes l.fn.text ++ spaced l.grm (map (symbol_of g.T.IndexStorage.number) (take l.symbol-index l.symbols))
