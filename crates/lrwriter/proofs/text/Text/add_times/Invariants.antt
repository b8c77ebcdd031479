-- so many of them are added
use Rattle.std.proofs.Common.{encode_utf8}
use Rattle.std.specs.List.{repeat}
use Rattle.lrwriter.specs.Texts.{Adds}
use Rattle.lrwriter.proofs.text.Text.add_times.Given as goal

abbrev pub invariant-loop : goal.invariant-loop
invariant-loop l = Adds l.initial.self l.self (repeat l.counter (encode_utf8 l.character))
