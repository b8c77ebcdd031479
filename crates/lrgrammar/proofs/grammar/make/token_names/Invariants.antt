use Rattle.std.proofs.Common.{◌≡◌, map, take}
use Rattle.std.specs.String.{string_bytes}
use Rattle.lrspec.specs.texts.Parts.{names_of}
use Rattle.lrtext.specs.StoredParts.{token_of}
use Rattle.lrgrammar.proofs.grammar.make.token_names.Given as goal

abbrev pub invariant-loop-token : goal.invariant-loop-token
invariant-loop-token l = map string_bytes l.names.items ≡ names_of (map token_of (take l.token-index l.parts.tokens.items))
