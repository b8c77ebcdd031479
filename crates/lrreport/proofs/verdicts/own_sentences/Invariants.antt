-- those so far
use Rattle.std.proofs.Common.{◌≡◌, ◌≤◌, take}
use Rattle.std.specs.List.{count_by}
use Rattle.lrshown.specs.Ambiguities.{has_own_sentence}
use Rattle.lrreport.proofs.verdicts.own_sentences.Given as goal

abbrev pub invariant-loop-one : goal.invariant-loop-one
invariant-loop-one l = (l.count ≡ count_by has_own_sentence (take l.one-index l.evidence)) × (l.count ≤ l.one-index)
