use Rattle.std.proofs.Common.{◌≡◌, [], map, take}
use Rattle.lrtext.specs.NumberedNames.{with_names}
use Rattle.lrtext.specs.StoredContents.{rule_name_of}
use Rattle.lrtext.proofs.meaning.numbering.rules.Given as goal

abbrev pub invariant-loop-alternative : goal.invariant-loop-alternative
invariant-loop-alternative l = l.rules ≡ with_names [] (map rule_name_of (take l.alternative-index l.contents.alternatives.items))
