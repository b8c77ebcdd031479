-- those so far meet like the first one
use Rattle.std.proofs.Common.{take}
use Rattle.std.specs.List.{All}
use Rattle.lrverdicts.specs.Listed.{MeetsLike}
use Rattle.lrreport.proofs.causes.together.Given as goal

abbrev pub invariant-loop-place : goal.invariant-loop-place
invariant-loop-place l = All (λ e. MeetsLike l.first.entry e.entry) (take l.place l.others)
