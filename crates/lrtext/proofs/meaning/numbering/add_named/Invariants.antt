use Rattle.std.proofs.Common.{◌≡◌, map, filter_map, take}
use Rattle.lrtext.specs.NumberedNames.{with_names}
use Rattle.lrspec.specs.texts.Meaning.{named_precedence}
use Rattle.lrtext.specs.StoredContents.{alternative_of}
use Rattle.lrtext.proofs.meaning.numbering.add_named.Given as goal

abbrev pub invariant-loop-alternative : goal.invariant-loop-alternative
invariant-loop-alternative l = l.tokens ≡ with_names l.initial.tokens (filter_map named_precedence (map alternative_of (take l.alternative-index l.alternatives)))
