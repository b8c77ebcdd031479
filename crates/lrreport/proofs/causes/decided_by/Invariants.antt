-- those so far
use Rattle.std.proofs.Common.{◌≡◌, map, take}
use Rattle.std.specs.Option.{option_map}
use Rattle.lrreport.proofs.causes.decided_by.Given as goal

abbrev pub invariant-loop-one : goal.invariant-loop-one
invariant-loop-one l = l.list.items ≡ map (λ e. option_map (λ d. d.tokens) e.decided) (take l.one-index l.evidence)
