-- the row keeps its places
use Rattle.std.proofs.Common.{◌≡◌, length}
use Rattle.lrcharts.proofs.charting.fill_from.Given as goal

abbrev pub invariant-loop : goal.invariant-loop
invariant-loop l = record {
  chart : l.chart.places ≡ l.fn.chart.places;
  ends : length l.ends ≡ l.fn.chart.places;
  next : length l.next ≡ l.fn.chart.places;
}
