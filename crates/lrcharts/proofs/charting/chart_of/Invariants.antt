-- the row keeps its places
use Rattle.std.proofs.Common.{◌≡◌, length}
use Rattle.lrcharts.proofs.charting.chart_of.Given as goal

abbrev pub invariant-loop-from : goal.invariant-loop-from
invariant-loop-from l = record {
  chart : l.chart.places ≡ l.initial.chart.places;
  ends : length l.ends ≡ l.initial.chart.places;
  next : length l.next ≡ l.initial.chart.places;
}
