-- the cells of the states so far take all
use Rattle.std.proofs.Common.{ℕ, ◌<◌}
use Rattle.lrkept.specs.Choices.{TakesAllIn}
use Rattle.lrkept.proofs.choices.takes_all.Given as goal

abbrev pub invariant-loop-number : goal.invariant-loop-number
invariant-loop-number l = (s : ℕ) → s < l.number → TakesAllIn l.grm l.graph l.table s
