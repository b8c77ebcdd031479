use Rattle.std.specs.Prelude.{codes}
use Rattle.std.specs.String.{string_bytes}
use Rattle.lrspec.specs.texts.PrintedTexts.{shift_reduce_line}
use Rattle.lrrows.specs.StoredLists.{stored_shift_reduce}
use Rattle.lrcells.proofs.HeadedTexts.{AreFirstLines}
use Rattle.lrcells.proofs.statetable.conflicts.Conflicts.pp_sr.Given as goal

abbrev pub invariant-loop-entry : goal.invariant-loop-entry
invariant-loop-entry g l =
    AreFirstLines (stored_shift_reduce g.T.IndexStorage.number) (codes "Shift/Reduce conflicts:\n") (shift_reduce_line l.grm) l.entry-items l.self.shift_reduce l.entry-index (string_bytes l.text)
