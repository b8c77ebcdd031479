-- no displacement so far fits
use Rattle.std.proofs.Common.{◌<◌, ◌*◌, ◌-◌, ◌+◌, ℕ, length}
use Rattle.lrsparse.specs.Owned.{MeetsNone}
use Rattle.lrsparse.proofs.sparsevec.owned.least_displacement.Given as goal

abbrev pub invariant-loop-start : goal.invariant-loop-start
invariant-loop-start l = record {
  within : l.displacement < 64 * length l.words + 64;
  none : (d : ℕ) → d < l.displacement → MeetsNone l.words l.columns d → ⊥;
}

abbrev pub decreases-loop-start : goal.decreases-loop-start
decreases-loop-start l = 64 * length l.words + 64 - l.displacement
