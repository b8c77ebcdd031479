use Rattle.std.proofs.Common.{◌≡◌, take, string_bytes}
use Rattle.std.specs.List.{flat_map}
use Rattle.lryacc.specs.NamedSymbols.{escaped_byte}
use Rattle.lryacc.proofs.names.escaped.Given as goal

abbrev pub invariant-loop-byte : goal.invariant-loop-byte
invariant-loop-byte l = string_bytes l.text ≡ flat_map escaped_byte (take l.byte-index l.name)
