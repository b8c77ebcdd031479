use Rattle.lrwriter.proofs.Pieces.{adds_both}
use Rattle.lrreport.proofs.conflicts.Checked.push_decided_words.Goals as goal

pub returns-in-Some : goal.returns-in-Some
returns-in-Some c = rw c.in-Some.is (adds_both c.add.ensures c.push_ambiguous.ensures)
