-- those so far
use Rattle.std.proofs.Common.{◌≡◌, map, take}
use Rattle.lrreport.proofs.causes.tokens_at.Given as goal

abbrev pub invariant-loop-one : goal.invariant-loop-one
invariant-loop-one l = l.tokens.items ≡ map (λ e. e.entry.token) (take l.one-index l.evidence)
