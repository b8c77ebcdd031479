-- the cells of the tokens so far take all
use Rattle.std.proofs.Common.{ℕ, ◌<◌}
use Rattle.lrkept.specs.Choices.{TakesShift, TakesReductions}
use Rattle.lrkept.proofs.choices.takes_all_in.Given as goal

abbrev pub invariant-loop-number : goal.invariant-loop-number
invariant-loop-number l =
    let s = l.state.0 in
    (t : ℕ) → t < l.number → TakesShift l.graph l.table s t × TakesReductions l.grm l.graph l.table s t
