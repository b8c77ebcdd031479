-- the row keeps its places
use Rattle.std.proofs.Common.{◌≡◌}
use Rattle.lrcharts.proofs.charting.add_nothing.Given as goal

abbrev pub invariant-loop-number : goal.invariant-loop-number
invariant-loop-number l = l.chart.places ≡ l.fn.chart.places
