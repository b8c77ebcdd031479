-- the chart is closed by the productions so far
use Rattle.std.proofs.Common.{◌≡◌, ℕ, ◌<◌, length}
use Rattle.lrcharts.specs.Charts.{IsClosedBy}
use Rattle.lrcharts.proofs.closedness.is_closed.Given as goal

abbrev pub invariant-loop-number : goal.invariant-loop-number
invariant-loop-number l = record {
  ends : length l.ends ≡ l.chart.places;
  next : length l.next ≡ l.chart.places;
  closed : (p : ℕ) → p < l.number → IsClosedBy l.grm l.chart p;
}
