use Rattle.lrwriter.proofs.Pieces.{adds_both}
use Rattle.lrreport.proofs.WordsOfVerdicts.{of_conflicts, of_others}
use Rattle.lrreport.proofs.conflicts.Checked.push_ambiguous_verdict.Goals as goal

pub returns-in-Conflicts : goal.returns-in-Conflicts
returns-in-Conflicts c =
    rw (c.in-Conflicts.is, of_conflicts c.in-Conflicts.counts _)
    (adds_both (adds_both c.push_ambiguous.ensures c.write.ensures) c.push_own_sentences.ensures)

pub returns-in_default : goal.returns-in_default
returns-in_default c =
    rw (of_others c.args.verdict _ c.in_default.not-Conflicts)
    (adds_both (adds_both (adds_both c.write-in_default.ensures c.push_ambiguous-in_default.ensures) c.add.ensures) c.push_own_sentences-in_default.ensures)
