use Rattle.std.proofs.Common.{◌≡◌, map, drop}
use Rattle.lrspec.specs.grammars.Grammar as math
use Rattle.lrgrammar.specs.Symbols.{symbol_of}
use Rattle.lrgrammar.specs.NullableBits.{all_set}
use Rattle.lrgrammar.proofs.firsts.nullable.all_nullable.Given as goal

abbrev pub invariant-loop-symbol : goal.invariant-loop-symbol
invariant-loop-symbol g l =
    let left = map (symbol_of g.T.IndexStorage.number) (drop l.symbol-index l.symbol-items) in
    record {
      same : all_set l.known left ≡ all_set l.known (math.body_of l.grm (g.T.IndexStorage.number l.fn.pidx.0));
      in_range : math.AreBodySymbols l.grm left;
    }
