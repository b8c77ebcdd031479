-- none of those so far has a text
use Rattle.std.proofs.Common.{◌≡◌, false, take}
use Rattle.std.specs.List.{list_any}
use Rattle.lrshown.specs.Ambiguities.{has_sentence}
use Rattle.lrreport.proofs.conflicts.Checked.any_sentence.Given as goal

abbrev pub invariant-loop-evidence : goal.invariant-loop-evidence
invariant-loop-evidence l = list_any has_sentence (take l.evidence-index l.meeting) ≡ false
