use Rattle.std.proofs.Common.{◌≡◌, [], map, take}
use Rattle.std.specs.Prelude.{filter_map}
use Rattle.lrspec.specs.texts.Meaning.{unknown_in_body}
use Rattle.lrtext.specs.StoredContents.{name_text_of}
use Rattle.lrtext.proofs.meaning.unknown.first_in_body.Given as goal

abbrev pub invariant-loop-name : goal.invariant-loop-name
invariant-loop-name l = filter_map (unknown_in_body l.rules l.declared) (map name_text_of (take l.name-index l.body)) ≡ []
