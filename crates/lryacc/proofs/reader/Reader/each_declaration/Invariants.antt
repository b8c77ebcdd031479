use Rattle.std.proofs.Common.{◌≡◌}
use Rattle.lryacc.specs.Bodies.{IsSameFile, IsWhole, PassesNoDelimiter, delimiters_read}
use Rattle.lryacc.specs.DeclarationsRead.{StatesDeclared}
use Rattle.lryacc.proofs.reader.Reader.each_declaration.Given as goal

abbrev pub invariant-loop : goal.invariant-loop
invariant-loop l = record {
  file : IsSameFile l.initial.self l.self;
  over : IsWhole l.self → PassesNoDelimiter l.initial.self l.self;
  said : IsWhole l.self → delimiters_read l.initial.self ≡ 0 → StatesDeclared l.initial.self l.self;
}
