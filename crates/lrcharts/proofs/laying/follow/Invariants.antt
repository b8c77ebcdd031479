-- the ends behind those so far are set
use Rattle.std.proofs.Common.{◌≡◌, ℕ, length}
use Rattle.std.specs.Prelude.{IsTrue}
use Rattle.lrbits.specs.Bits.{bit}
use Rattle.lrgrammar.specs.Symbols.{symbol_of, number_of}
use Rattle.lrcharts.specs.Charts.{HasSpan}
use Rattle.lrcharts.proofs.BitsInTurn.{AreDone}
use Rattle.lrcharts.proofs.laying.follow.Given as goal

abbrev pub invariant-loop-from : goal.invariant-loop-from
invariant-loop-from l = record {
  places : length l.next ≡ l.chart.places;
  done :
      AreDone (λ k. IsTrue (bit l.fn.ends k)) (λ k. (to : ℕ) → HasSpan l.chart (symbol_of number_of l.symbol) k to → IsTrue (bit l.next to))
      l.from-iterator;
}
