use Rattle.lrreport.proofs.conflicts.Checked.line.Goals as goal

pub returns : goal.returns
returns c = rw (← c.has_hint-has_hint.ensures, ← c.in_ok-words.ensures.words, ← c.as_str-words.ensures.value) c.format.ensures.ok
