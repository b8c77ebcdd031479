use Rattle.std.proofs.Common.{◌≡◌, map, take, string_bytes}
use Rattle.lrtext.specs.NumberedNames.{names_of}
use Rattle.lrtext.proofs.meaning.own_names.Given as goal

abbrev pub invariant-loop-name : goal.invariant-loop-name
invariant-loop-name l = map string_bytes l.own.items ≡ names_of (take l.name-index l.names)
