use Rattle.std.proofs.Common.{◌≡◌, map}
use Rattle.std.specs.List.{range_with_len}
use Rattle.std.specs.Option.{option_map}
use Rattle.lrspec.specs.grammars.Grammar.{token_precedence}
use Rattle.lrtext.specs.StoredParts.{precedence_of}
use Rattle.lrfindings.proofs.cells.of_tokens.Given as goal

abbrev pub invariant-loop-token : goal.invariant-loop-token
invariant-loop-token l = map (option_map precedence_of) l.precedences.items ≡ map (token_precedence l.grm) (range_with_len 0 l.token)
