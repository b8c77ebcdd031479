-- the symbols so far
use Rattle.std.proofs.Common.{length, map, take}
use Rattle.std.specs.List.{AllZip}
use Rattle.lrgrammar.specs.Symbols.{symbol_of, number_of}
use Rattle.lrambiguity.specs.Parts.{Derives}
use Rattle.lrreasons.specs.Parts.{moves_of_all}
use Rattle.lrreasons.proofs.parts.are_derived.Given as goal

abbrev pub invariant-loop-symbol : goal.invariant-loop-symbol
invariant-loop-symbol l =
    AllZip (Derives l.grm) (map (symbol_of number_of) (take (length l.yielded) l.symbols)) (moves_of_all (take (length l.yielded) l.texts))
