-- the ends so far are set
use Rattle.lrgrammar.specs.Symbols.{symbol_of, number_of}
use Rattle.lrcharts.proofs.EndsInTurn.{AreAdding}
use Rattle.lrcharts.proofs.laying.add_ends.Given as goal

abbrev pub invariant-loop-at : goal.invariant-loop-at
invariant-loop-at l = AreAdding l.chart (symbol_of number_of l.fn.symbol) l.fn.from l.start l.fn.ends l.ends l.at-iterator
