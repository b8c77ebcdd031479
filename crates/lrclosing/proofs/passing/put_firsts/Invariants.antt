use Rattle.std.proofs.Common.{◌≡◌, length, map, drop, Some}
use Rattle.std.specs.Prelude.{◌↔◌}
use Rattle.lrspec.specs.grammars.Grammar as math
use Rattle.lrspec.specs.grammars.First.{AllNullable}
use Rattle.lrgrammar.specs.Symbols.{symbol_of}
use Rattle.lrclosing.specs.Rows.{HasGrown}
use Rattle.lrclosing.proofs.PassedOn.{passed}
use Rattle.lrclosing.proofs.passing.put_firsts.Given as goal

abbrev pub invariant-loop-symbol : goal.invariant-loop-symbol
invariant-loop-symbol g l =
    let number = g.T.IndexStorage.number in
    let left = map (symbol_of number) (drop l.symbol-index l.symbol-items) in
    let whole = math.rest l.grm (number l.fn.pidx.0) l.fn.from in
    record {
      same : passed l.firsts left l.row ≡ passed l.firsts whole l.fn.row;
      symbols : math.AreBodySymbols l.grm left;
      len : length l.row ≡ math.token_count l.grm;
      grown : HasGrown (math.token_count l.grm) l.changed (Some l.fn.row) l.row;
      nullable : AllNullable l.grm left ↔ AllNullable l.grm whole;
    }
