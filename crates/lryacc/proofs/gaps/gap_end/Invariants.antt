use Rattle.std.proofs.Common.{◌≡◌, ℕ}
use Rattle.lryacc.specs.declared.dialects.Dialect.TheVariants.{Grmtools}
use Rattle.lryacc.specs.Gaps.{IsGap}
use Rattle.lryacc.specs.GapsRead.{EndsGap, IsGapUpTo, IsLeft}
use Rattle.lryacc.proofs.gaps.gap_end.Given as goal

abbrev pub invariant-loop-at : goal.invariant-loop-at
invariant-loop-at l = record {
  up : IsGapUpTo l.fn.dialect l.text l.from l.at l.within;
  left : l.fn.dialect ≡ Grmtools → (end : ℕ) → IsGap Grmtools l.text l.from end → EndsGap l.text end → IsLeft l.text end l.at l.within;
}
