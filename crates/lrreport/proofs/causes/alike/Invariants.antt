-- those so far are of the kind of the first one
use Rattle.std.proofs.Common.{take}
use Rattle.std.specs.List.{All}
use Rattle.lrreport.specs.Causes.{AreAlike}
use Rattle.lrreport.proofs.causes.alike.Given as goal

abbrev pub invariant-loop-place : goal.invariant-loop-place
invariant-loop-place l = All (λ m. AreAlike l.first.kind m.kind) (take l.place l.others)
