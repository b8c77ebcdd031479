use Rattle.std.proofs.Common.{◌≡◌, filter_map, flat_map, take}
use Rattle.lrtext.specs.NumberedNames.{with_names}
use Rattle.lrspec.specs.texts.Meaning.{token_in_body}
use Rattle.lrtext.specs.StoredContents.{body_of}
use Rattle.lrtext.proofs.meaning.numbering.add_bodies.Given as goal

abbrev pub invariant-loop-alternative : goal.invariant-loop-alternative
invariant-loop-alternative l = l.tokens ≡ with_names l.initial.tokens (filter_map (token_in_body l.rules) (flat_map body_of (take l.alternative-index l.alternatives)))
