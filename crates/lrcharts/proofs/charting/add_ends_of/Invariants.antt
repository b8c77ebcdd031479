-- the row keeps its places
use Rattle.std.proofs.Common.{◌≡◌}
use Rattle.lrcharts.proofs.charting.add_ends_of.Given as goal

abbrev pub invariant-loop-to : goal.invariant-loop-to
invariant-loop-to l = l.chart.places ≡ l.fn.chart.places
