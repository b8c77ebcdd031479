use Rattle.std.proofs.Common.{◌≡◌, ◌++◌, map, take}
use Rattle.std.specs.Prelude.{codes}
use Rattle.std.specs.List.{flat_map}
use Rattle.std.specs.String.{string_bytes}
use Rattle.lrspec.specs.grammars.Grammar.{rule_of}
use Rattle.lrspec.specs.texts.PrintedTexts.{rule_name, quoted}
use Rattle.lrgrammar.specs.Symbols.{symbol_of}
use Rattle.lrgrammar.proofs.grammar.YaccGrammar.pp_prod.Given as goal

abbrev pub invariant-loop-symbol : goal.invariant-loop-symbol
invariant-loop-symbol g l =
    string_bytes l.text ≡ rule_name l.self (rule_of l.self (g.T.IndexStorage.number l.fn.pidx.0)) ++ codes ":" ++ flat_map (quoted l.self) (map (symbol_of g.T.IndexStorage.number) (take l.symbol-index l.symbol-items))
