use Rattle.lrdecided.specs.Entries.{entry_of}
use Rattle.lrevidence.proofs.KeptMoves.{both_kept}
use Rattle.lrevidence.proofs.keeping.is_kept_entry.Goals as goal

pub returns-clause-kept : goal.returns-clause-kept
returns-clause-kept c = λ told.
    both_kept _ _ _ c.args.entry (entry_of c.in-Some.meeting) c.in-Some.ensures (c.in_ok-is_kept.ensures.kept c.if-not-branch.false)
    (c.in_ok-other.ensures.kept told)
