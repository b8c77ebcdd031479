use Rattle.std.proofs.Common.{◌≡◌, map, take}
use Rattle.lrspec.specs.texts.Parts.{names_of}
use Rattle.lrtext.specs.StoredParts.{token_of}
use Rattle.lrparts.proofs.doubles.token_names.Given as goal

abbrev pub invariant-loop-token : goal.invariant-loop-token
invariant-loop-token l = map (λ n. n.now) l.names.items ≡ names_of (map token_of (take l.token-index l.parts.tokens.items))
