use Rattle.lryacc.specs.Bodies.{PassesNoDelimiter}
use Rattle.lryacc.specs.DeclarationsRead.{StatesDeclared}
use Rattle.lryacc.proofs.reader.Reader.pass_semicolons.Given as goal

abbrev pub invariant-loop : goal.invariant-loop
invariant-loop l = record {
  over : PassesNoDelimiter l.initial.self l.self;
  declared : StatesDeclared l.initial.self l.self;
}
