-- those so far
use Rattle.std.proofs.Common.{◌≡◌, ◌++◌, map}
use Rattle.lrshown.specs.declared.trees.Visit.TheVariants.{Enter}
use Rattle.lrshown.proofs.trees.push_entered.Given as goal

abbrev pub invariant-loop-production : goal.invariant-loop-production
invariant-loop-production l = l.visits.items ≡ l.initial.visits.items ++ map Enter (map (λ p. p.now) l.yielded)
