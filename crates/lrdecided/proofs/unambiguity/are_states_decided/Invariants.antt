-- the states so far are decided
use Rattle.std.proofs.Common.{ℕ, ◌<◌}
use Rattle.lrdecided.specs.Contenders.{IsStateDecided}
use Rattle.lrdecided.proofs.unambiguity.are_states_decided.Given as goal

abbrev pub invariant-loop-number : goal.invariant-loop-number
invariant-loop-number l = (s : ℕ) → s < l.number → IsStateDecided l.search.grm.now l.search.graph.now s
