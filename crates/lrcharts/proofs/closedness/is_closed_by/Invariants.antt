-- the rule is derived from the places so far, wherever the body leads
use Rattle.std.proofs.Common.{◌≡◌, ℕ, ◌<◌, ◌≤◌, length}
use Rattle.lrspec.specs.grammars.Grammar.{Rule, body_of}
use Rattle.lrcharts.specs.Charts.{HasSpan, Laid}
use Rattle.lrcharts.proofs.closedness.is_closed_by.Given as goal

abbrev pub invariant-loop-from : goal.invariant-loop-from
invariant-loop-from l = record {
  ends : length l.ends ≡ l.chart.places;
  next : length l.next ≡ l.chart.places;
  closed : (i j : ℕ) → i < l.from → l.chart.top ≤ j → Laid l.chart (body_of l.grm l.fn.production.0) i j → HasSpan l.chart (Rule l.rule.0) i j;
}
