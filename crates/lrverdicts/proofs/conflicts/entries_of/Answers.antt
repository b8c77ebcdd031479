use Rattle.std.proofs.Common.{◌≡◌, map, refl}
use Rattle.lrspec.specs.tables.Table.{lists_of}
use Rattle.lrverdicts.specs.Listed.{told, listed}
use Rattle.lrverdicts.proofs.ListedEntries.{sorted_entries}
use Rattle.lrverdicts.proofs.conflicts.entries_of.Goals as goal
use Rattle.lrverdicts.proofs.conflicts.entries_of.Goals.{in-Some+in_ok-push_conflicts, in_default}

pub returns : goal.returns
returns c =
    let all : map told c.match-conflicts.entries.items ≡ listed (lists_of c.args.table.now) =
    elim c.match-conflicts.branch [
      | in-Some+in_ok-push_conflicts w ↦ rw (w.entries-is, w.in_ok-push_conflicts.ensures, c.new-entries.ensures.items, w.in-Some.ensures.lists) refl
      | in_default w ↦ rw (w.entries-is, c.new-entries.ensures.items, w.in_default.ensures.none.0, w.in_default.ensures.none.1) refl
    ] in
    sorted_entries _ _ _ all c.sort_unstable.ensures.permutation
