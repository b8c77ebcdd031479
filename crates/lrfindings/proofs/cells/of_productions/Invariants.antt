use Rattle.std.proofs.Common.{◌≡◌, map}
use Rattle.std.specs.List.{range_with_len}
use Rattle.std.specs.Option.{option_map}
use Rattle.lrspec.specs.grammars.Grammar.{production_precedence}
use Rattle.lrtext.specs.StoredParts.{precedence_of}
use Rattle.lrfindings.proofs.cells.of_productions.Given as goal

abbrev pub invariant-loop-production : goal.invariant-loop-production
invariant-loop-production l = map (option_map precedence_of) l.precedences.items ≡ map (production_precedence l.grm) (range_with_len 0 l.production)
