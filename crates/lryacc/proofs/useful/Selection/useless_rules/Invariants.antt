use Rattle.std.proofs.Common.{◌≡◌, [], All, IsSome, take}
use Rattle.lryacc.proofs.useful.Selection.useless_rules.Given as goal

abbrev pub invariant-loop-rule : goal.invariant-loop-rule
invariant-loop-rule l = l.useless.items ≡ [] → All (λ number. IsSome number) (take l.rule l.number-items)
