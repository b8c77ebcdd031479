use Rattle.std.proofs.Common.{map, drop}
use Rattle.lrgrammar.specs.Symbols.{symbol_of}
use Rattle.lrgrammar.proofs.BodyWalks.{Walked}
use Rattle.lrgrammar.proofs.firsts.rows.grow_row.Given as goal

abbrev pub invariant-loop-symbol : goal.invariant-loop-symbol
invariant-loop-symbol g l =
    let number = g.T.IndexStorage.number in
    Walked l.grm l.nullable l.initial.rows l.rows (number l.fn.pidx.0) l.rule (map (symbol_of number) (drop l.symbol-index l.symbol-items)) l.grown
