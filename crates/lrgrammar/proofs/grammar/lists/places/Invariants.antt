use Rattle.std.proofs.Common.{map}
use Rattle.std.specs.HashMap.{get_by_text}
use Rattle.std.specs.String.{string_bytes}
use Rattle.lrparts.specs.LookUps.{FindsNames}
use Rattle.lrgrammar.proofs.grammar.lists.places.Given as goal

abbrev pub invariant-loop-i : goal.invariant-loop-i
invariant-loop-i l = FindsNames (get_by_text l.places) (map string_bytes l.names) l.i
