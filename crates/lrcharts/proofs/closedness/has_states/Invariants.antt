-- what lies between the states so far are leaves
use Rattle.std.proofs.Common.{◌≡◌, ℕ, ◌+◌, ◌<◌, map, Some}
use Rattle.std.specs.Prelude.{slice_get}
use Rattle.lrcharts.specs.Charts.{HasEdges}
use Rattle.lrcharts.proofs.closedness.has_states.Given as goal

abbrev pub invariant-loop-place : goal.invariant-loop-place
invariant-loop-place l =
    (i s u : ℕ) → i + 1 < l.place → slice_get (map (λ s. s.0) l.stack) i ≡ Some s → slice_get (map (λ s. s.0) l.stack) (i + 1) ≡ Some u
    → HasEdges l.graph l.chart s u i
