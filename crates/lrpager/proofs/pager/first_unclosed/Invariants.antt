use Rattle.std.proofs.Common.{◌<◌, ◌≤◌, ℕ}
use Rattle.lrpager.specs.Choices.{IsUnclosed}
use Rattle.lrpager.proofs.pager.first_unclosed.Given as goal

abbrev pub invariant-loop-i : goal.invariant-loop-i
invariant-loop-i g l = (k : ℕ) → l.from ≤ k → k < l.i → IsUnclosed l.drafts k → ⊥
