use Rattle.std.proofs.Common.{◌≡◌, map, take}
use Rattle.lrspec.specs.grammars.Grammar as math
use Rattle.lrgrammar.specs.Symbols.{symbol_of, number_of}
use Rattle.lrreasons.proofs.words.symbols_of.Given as goal

abbrev pub invariant-loop-token : goal.invariant-loop-token
invariant-loop-token l =
    map (symbol_of number_of) l.symbols.items
    ≡ map (λ t. math.Symbol.Token t.0) (take l.token-index l.tokens)
