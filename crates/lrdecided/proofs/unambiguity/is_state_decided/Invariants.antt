-- the cells of the tokens so far are decided
use Rattle.std.proofs.Common.{ℕ, ◌<◌}
use Rattle.lrdecided.specs.Contenders.{IsCellDecided}
use Rattle.lrdecided.proofs.unambiguity.is_state_decided.Given as goal

abbrev pub invariant-loop-number : goal.invariant-loop-number
invariant-loop-number l =
    (t : ℕ) → t < l.number → IsCellDecided l.search.grm.now l.search.graph.now l.state.0 t
