use Rattle.std.proofs.Common.{◌≡◌}
use Rattle.lrcells.specs.TakenTokens.{tokens_taken}
use Rattle.lrcells.proofs.statetable.iterators.first_taken.Given as goal

abbrev pub invariant-loop-token : goal.invariant-loop-token
invariant-loop-token g l = tokens_taken l.actions l.row l.shifts_only l.at l.end ≡ tokens_taken l.actions l.row l.shifts_only l.token l.end
