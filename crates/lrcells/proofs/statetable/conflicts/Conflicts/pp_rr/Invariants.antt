use Rattle.std.specs.Prelude.{codes}
use Rattle.std.specs.String.{string_bytes}
use Rattle.lrspec.specs.texts.PrintedTexts.{reduce_reduce_line}
use Rattle.lrrows.specs.StoredLists.{stored_reduce_reduce}
use Rattle.lrcells.proofs.HeadedTexts.{AreFirstLines}
use Rattle.lrcells.proofs.statetable.conflicts.Conflicts.pp_rr.Given as goal

abbrev pub invariant-loop-entry : goal.invariant-loop-entry
invariant-loop-entry g l =
    AreFirstLines (stored_reduce_reduce g.T.IndexStorage.number) (codes "Reduce/Reduce conflicts:\n") (reduce_reduce_line l.grm) l.entry-items l.self.reduce_reduce l.entry-index (string_bytes l.text)
