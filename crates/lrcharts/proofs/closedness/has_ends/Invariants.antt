-- the rule is derived to the ends so far
use Rattle.std.specs.Prelude.{IsTrue, ◌≤◌}
use Rattle.lrbits.specs.Bits.{bit}
use Rattle.lrspec.specs.grammars.Grammar.{Rule}
use Rattle.lrcharts.specs.Charts.{HasSpan}
use Rattle.lrcharts.proofs.BitsInTurn.{AreDone}
use Rattle.lrcharts.proofs.closedness.has_ends.Given as goal

abbrev pub invariant-loop-to : goal.invariant-loop-to
invariant-loop-to l = AreDone (λ k. IsTrue (bit l.ends k)) (λ k. l.chart.top ≤ k → HasSpan l.chart (Rule l.rule.0) l.from k) l.to-iterator
