use Rattle.std.proofs.Common.{◌≡◌, ◌<◌, ℕ, true, false, get_or}
use Rattle.lrparts.proofs.causes.empty_rule.Given as goal

abbrev pub invariant-loop-is_used : goal.invariant-loop-is_used
invariant-loop-is_used l = (k : ℕ) → k < l.is_used-index → get_or l.is_used-items k false ≡ true
