use Rattle.std.proofs.Common.{◌≡◌, ◌++◌, map, take}
use Rattle.lrtext.specs.NumberedNames.{names_of}
use Rattle.lrtext.specs.StoredParts.{precedence_of}
use Rattle.lrtext.specs.StoredLevels.{leveled_of}
use Rattle.lrtext.proofs.meaning.precedences.push_line.Given as goal

abbrev pub invariant-loop-name : goal.invariant-loop-name
invariant-loop-name l = map leveled_of l.leveled.items ≡ map leveled_of l.initial.leveled.items ++ map (λ w. (w, precedence_of l.precedence)) (names_of (take l.name-index l.line.names.items))
