use Rattle.std.proofs.Common.{◌≡◌, map, take}
use Rattle.lrspec.specs.texts.Meaning.{token_in}
use Rattle.lrtext.specs.NumberedNames.{names_of}
use Rattle.lrtext.specs.StoredParts.{token_of}
use Rattle.lrtext.specs.StoredLevels.{leveled_of}
use Rattle.lrtext.proofs.meaning.part_tokens.Given as goal

abbrev pub invariant-loop-token : goal.invariant-loop-token
invariant-loop-token l = map token_of l.tokens.items ≡ map (token_in (map leveled_of l.leveled)) (names_of (take l.token-index l.names))
