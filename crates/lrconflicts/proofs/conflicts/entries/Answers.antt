use Rattle.std.proofs.Common.{◌≡◌, ◌∙◌, ap}
use Rattle.std.specs.Prelude.{map}
use Rattle.lrrows.specs.StoredLists.{stored_shift_reduces, stored_reduce_reduces}
use Rattle.lrconflicts.specs.Entries.{entry_of}
use Rattle.lrconflicts.proofs.AddedEntries.{both_added}
use Rattle.lrconflicts.proofs.conflicts.entries.Goals as goal

pub returns : goal.returns
returns g c =
    let number = g.T.IndexStorage.number in
    both_added number c.args.conflicts.now c.as_slice.result.now c.as_slice-2.result.now _ _
    (ap (stored_shift_reduces number) c.as_slice.ensures.value ∙ c.sr_conflicts.ensures.entries)
    (ap (stored_reduce_reduces number) c.as_slice-2.ensures.value ∙ c.rr_conflicts.ensures.entries)
    (rw c.new-entries.ensures.items at c.in_ok-push_shift_reduce.ensures) c.in_ok-push_reduce_reduce.ensures
