use Rattle.std.proofs.Common.{◌≡◌, [], filter_map, flat_map, take}
use Rattle.lrspec.specs.texts.Meaning.{unknown_in_body}
use Rattle.lrtext.specs.StoredContents.{body_of}
use Rattle.lrtext.proofs.meaning.unknown.first_in_bodies.Given as goal

abbrev pub invariant-loop-alternative : goal.invariant-loop-alternative
invariant-loop-alternative l = filter_map (unknown_in_body l.rules l.declared) (flat_map body_of (take l.alternative-index l.alternatives)) ≡ []
