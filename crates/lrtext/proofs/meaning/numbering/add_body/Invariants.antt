use Rattle.std.proofs.Common.{◌≡◌, map, filter_map, take}
use Rattle.lrtext.specs.NumberedNames.{with_names}
use Rattle.lrspec.specs.texts.Meaning.{token_in_body}
use Rattle.lrtext.specs.StoredContents.{name_text_of}
use Rattle.lrtext.proofs.meaning.numbering.add_body.Given as goal

abbrev pub invariant-loop-name : goal.invariant-loop-name
invariant-loop-name l = l.tokens ≡ with_names l.initial.tokens (filter_map (token_in_body l.rules) (map name_text_of (take l.name-index l.body)))
