-- those so far
use Rattle.std.proofs.Common.{◌≡◌, ◌++◌, map, take}
use Rattle.lrverdicts.specs.Listed.{told}
use Rattle.lrverdicts.proofs.conflicts.push_listed.Given as goal

abbrev pub invariant-loop-conflict : goal.invariant-loop-conflict
invariant-loop-conflict g l = map told l.entries.items ≡ map told l.initial.entries.items ++ map g.C.Listed.listing (take l.conflict-index l.conflicts)
