use Rattle.std.proofs.Common.{◌≡◌, map, take}
use Rattle.std.specs.Option.{option_map}
use Rattle.lrspec.specs.texts.Parts.{precedences_of}
use Rattle.lrtext.specs.StoredParts.{token_of, precedence_of}
use Rattle.lrgrammar.proofs.grammar.make.token_precedences.Given as goal

abbrev pub invariant-loop-token : goal.invariant-loop-token
invariant-loop-token l =
    map (option_map precedence_of) l.precedences.items ≡ precedences_of (map token_of (take l.token-index l.parts.tokens.items))
