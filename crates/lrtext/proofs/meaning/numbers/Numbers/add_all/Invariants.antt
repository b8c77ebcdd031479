use Rattle.std.proofs.Common.{◌≡◌, take}
use Rattle.lrtext.specs.NumberedNames.{names_of, with_names}
use Rattle.lrtext.proofs.meaning.numbers.Numbers.add_all.Given as goal

abbrev pub invariant-loop-name : goal.invariant-loop-name
invariant-loop-name l = l.self ≡ with_names l.initial.self (names_of (take l.name-index l.names))
