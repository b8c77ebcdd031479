-- there is no contest at the token of the conflict, and at none so far
use Rattle.std.proofs.Common.{ℕ, ◌<◌}
use Rattle.lrcontests.specs.Contests.{HasNoReductionContest}
use Rattle.lrcontests.proofs.contests.Contests.of_reductions.Given as goal

abbrev pub invariant-loop-number : goal.invariant-loop-number
invariant-loop-number g l =
    let number = g.T.IndexStorage.number in
    record {
      own : HasNoReductionContest l.self.grammar l.self.graph (number l.fn.token.0) (number l.fn.pidx.0) (number l.fn.other.0) (number l.fn.stidx.0);
      below :
          (k : ℕ) → k < l.number
          → HasNoReductionContest l.self.grammar l.self.graph k (number l.fn.pidx.0) (number l.fn.other.0) (number l.fn.stidx.0);
    }
