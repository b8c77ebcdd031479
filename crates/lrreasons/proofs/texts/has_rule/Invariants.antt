use Rattle.std.proofs.Common.{◌≡◌, false, map, take}
use Rattle.std.specs.List.{list_any}
use Rattle.lrgrammar.specs.Symbols.{symbol_of, number_of}
use Rattle.lrreasons.specs.Texts.{is_rule}
use Rattle.lrreasons.proofs.texts.has_rule.Given as goal

abbrev pub invariant-loop-symbol : goal.invariant-loop-symbol
invariant-loop-symbol l = list_any is_rule (map (symbol_of number_of) (take l.symbol-index l.symbols)) ≡ false
