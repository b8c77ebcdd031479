-- a turn for each place
use Rattle.std.proofs.Common.{◌≡◌, ◌+◌, inl, inr, arith}
use Rattle.std.proofs.lemmas.Bool.{cases_lt}
use Rattle.lrcharts.specs.Charts.{HasEdges}
use Rattle.lrcharts.proofs.LeavesInTurn.{states_at, state_within}
use Rattle.lrcharts.proofs.closedness.has_states.Goals as goal

pub loop-place-preserved : goal.loop-place-preserved
loop-place-preserved c = λ i s u l at next. elim (cases_lt (i + 1) c.loop-place.place) [
  | inl before ↦ c.loop-place.invariant i s u before at next
  | inr now ↦
      let here : c.loop-place.place ≡ i + 1 = omega (arith, l, now) in
      states_at (λ s u i. HasEdges c.args.graph.now c.args.chart.now s u i) c.args.stack.now _ _ i c.loop-place.place s u here at next
      (c.has_edges.ensures c.if-not-has_edges.false)
]

pub returns : goal.returns
returns c = λ _ i s u at next.
    c.loop-place.invariant i s u (omega (arith, state_within c.args.stack.now (i + 1) u next, c.loop-place-test.false)) at next
