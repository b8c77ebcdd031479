use Rattle.std.proofs.Common.{◌≡◌}
use Rattle.lryacc.specs.Bodies.{IsSameFile}
use Rattle.lryacc.proofs.reader.Reader.pass_on.Given as goal

abbrev pub invariant-loop : goal.invariant-loop
invariant-loop l = record {
  file : IsSameFile l.initial.self l.self;
  statements : l.self.contents.statements ≡ l.initial.self.contents.statements;
}
