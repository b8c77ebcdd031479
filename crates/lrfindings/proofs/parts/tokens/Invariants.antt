use Rattle.std.proofs.Common.{◌≡◌, map, take}
use Rattle.lrtext.specs.StoredParts.{token_of}
use Rattle.lrfindings.specs.FileGrammars.{without_precedence}
use Rattle.lrfindings.proofs.parts.tokens.Given as goal

abbrev pub invariant-loop-token : goal.invariant-loop-token
invariant-loop-token l = map token_of l.tokens.items ≡ map without_precedence (map token_of (take l.token-index l.parts))
