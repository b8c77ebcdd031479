-- the symbols that are left are nullable exactly where all are
use Rattle.std.proofs.Common.{map, drop}
use Rattle.std.specs.Prelude.{◌↔◌}
use Rattle.lrspec.specs.grammars.First.{AllNullable}
use Rattle.lrgrammar.specs.Symbols.{symbol_of, number_of}
use Rattle.lrkept.proofs.alone.are_nullable.Given as goal

abbrev pub invariant-loop-symbol : goal.invariant-loop-symbol
invariant-loop-symbol l =
    let f = symbol_of number_of in
    AllNullable l.grm (map f (drop l.symbol-index l.symbols)) ↔ AllNullable l.grm (map f l.symbols)
