use Rattle.std.proofs.Common.{◌≡◌, None, map, take}
use Rattle.std.specs.Option.{option_map}
use Rattle.lrspec.specs.grammars.Grammar.{last_token_or}
use Rattle.lrgrammar.specs.Symbols.{symbol_of}
use Rattle.lrgrammar.proofs.grammar.precedences.last_token.Given as goal

abbrev pub invariant-loop-symbol : goal.invariant-loop-symbol
invariant-loop-symbol g l =
    option_map (λ t. g.T.IndexStorage.number t.0) l.last ≡ last_token_or None (map (symbol_of g.T.IndexStorage.number) (take l.symbol-index l.body))
