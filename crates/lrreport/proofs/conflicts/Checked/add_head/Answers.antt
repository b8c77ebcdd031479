use Rattle.lrreport.proofs.AddedTokens.{adds_both}
use Rattle.lrreport.proofs.conflicts.Checked.add_head.Goals as goal

pub returns : goal.returns
returns c =
    rw (← c.any_sentence-shown.ensures.known)
    (adds_both c.begin_object.ensures
    (adds_both (rw (c.word_of.ensures, c.is_some.ensures) at c.add_verdict.ensures)
    (adds_both c.add_proved.ensures (rw c.counts.ensures at c.add_counts.ensures))))
