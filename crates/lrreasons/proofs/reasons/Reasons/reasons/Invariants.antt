-- those so far
use Rattle.std.proofs.Common.{◌≡◌, map, take}
use Rattle.std.specs.Prelude.{All}
use Rattle.lrconflicts.specs.Entries.{entry_of, entries_of}
use Rattle.lrreasons.specs.Reasons.{IsReason}
use Rattle.lrgrammar.specs.Symbols.{number_of}
use Rattle.lrreasons.proofs.reasons.Reasons.reasons.Given as goal

abbrev pub invariant-loop-conflict : goal.invariant-loop-conflict
invariant-loop-conflict l =
    (map (entry_of number_of) l.conflict-items ≡ entries_of l.conflicts)
    × (map (λ r. entry_of number_of r.conflict) l.reasons.items
    ≡ map (entry_of number_of) (take l.conflict-index l.conflict-items))
    × All (IsReason l.self.grammar l.self.graph) l.reasons.items
