-- those so far
use Rattle.std.proofs.Common.{◌≡◌, ◌++◌, map, take}
use Rattle.lrrows.specs.StoredLists.{stored_shift_reduce}
use Rattle.lrconflicts.specs.Entries.{ShiftReduce, entry_of}
use Rattle.lrconflicts.proofs.conflicts.push_shift_reduce.Given as goal

abbrev pub invariant-loop-conflict : goal.invariant-loop-conflict
invariant-loop-conflict g l =
    map (entry_of g.T.IndexStorage.number) l.entries.items
    ≡ map (entry_of g.T.IndexStorage.number) l.initial.entries.items
    ++ map (λ e. ShiftReduce (stored_shift_reduce g.T.IndexStorage.number e)) (take l.conflict-index l.conflicts)
