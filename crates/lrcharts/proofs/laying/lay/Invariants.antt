-- the places are set to which the symbols so far lead
use Rattle.std.proofs.Common.{◌≡◌, ℕ, length, take}
use Rattle.std.specs.Prelude.{IsTrue}
use Rattle.lrbits.specs.Bits.{bit}
use Rattle.lrcharts.specs.Charts.{Laid, symbols_of}
use Rattle.lrcharts.proofs.laying.lay.Given as goal

abbrev pub invariant-loop-symbol : goal.invariant-loop-symbol
invariant-loop-symbol l = record {
  ends : length l.ends ≡ l.chart.places;
  next : length l.next ≡ l.chart.places;
  laid : (to : ℕ) → Laid l.chart (take l.symbol-index (symbols_of l.symbols)) l.fn.from to → IsTrue (bit l.ends to);
}
