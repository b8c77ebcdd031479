-- the row keeps its places
use Rattle.std.proofs.Common.{◌≡◌}
use Rattle.lrcharts.proofs.charting.add_leaves.Given as goal

abbrev pub invariant-loop-symbol : goal.invariant-loop-symbol
invariant-loop-symbol l = l.chart.places ≡ l.fn.chart.places
