use Rattle.std.proofs.Common.{◌∙◌, ap}
use Rattle.lrrows.specs.StoredLists.{stored_shift_reduces, stored_reduce_reduces}
use Rattle.lrgrammar.specs.Symbols.{number_of}
use Rattle.lrverdicts.proofs.ListedEntries.{both_added}
use Rattle.lrverdicts.proofs.conflicts.push_conflicts.Goals as goal

pub returns : goal.returns
returns c =
    both_added c.args.conflicts.now c.as_slice.result.now c.as_slice-2.result.now _ _ _
    (ap (stored_shift_reduces number_of) c.as_slice.ensures.value ∙ c.sr_conflicts.ensures.entries)
    (ap (stored_reduce_reduces number_of) c.as_slice-2.ensures.value ∙ c.rr_conflicts.ensures.entries)
    c.in_ok-push_listed.ensures c.in_ok-push_listed-2.ensures
