-- what the symbols that are left are to the token, all of them are
use Rattle.std.proofs.Common.{map, drop}
use Rattle.lrspec.specs.grammars.Grammar as math
use Rattle.lrgrammar.specs.Symbols.{symbol_of}
use Rattle.lrsearches.specs.declared.rests.Rest.{Rest}
use Rattle.lrsearches.specs.Rests.{IsRest}
use Rattle.lrsearches.proofs.rests.rest_from.Given as goal

abbrev pub invariant-loop-symbol : goal.invariant-loop-symbol
invariant-loop-symbol g l =
    let number = g.T.IndexStorage.number in
    let left = map (symbol_of number) (drop l.symbol-index l.symbol-items) in
    record {
      symbols : math.AreBodySymbols l.grm left;
      same : (x : Rest) → IsRest l.grm left (number l.token.0) x → IsRest l.grm (math.rest l.grm (number l.fn.pidx.0) l.fn.from) (number l.token.0) x;
    }
