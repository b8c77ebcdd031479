-- the row keeps its places
use Rattle.std.proofs.Common.{◌≡◌, length}
use Rattle.lrcharts.proofs.charting.widen.Given as goal

abbrev pub invariant-loop-production : goal.invariant-loop-production
invariant-loop-production l = record {
  chart : l.chart.places ≡ l.fn.chart.places;
  ends : length l.ends ≡ l.fn.chart.places;
  next : length l.next ≡ l.fn.chart.places;
}
