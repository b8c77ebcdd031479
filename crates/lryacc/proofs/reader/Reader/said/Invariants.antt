use Rattle.lryacc.specs.Bodies.{PassesNoDelimiter}
use Rattle.lryacc.specs.DeclarationsRead.{StatesListed}
use Rattle.lryacc.proofs.reader.Reader.said.Given as goal

abbrev pub invariant-loop : goal.invariant-loop
invariant-loop l = record {
  over : PassesNoDelimiter l.fn.self l.self;
  listed : StatesListed l.fn.self l.self;
}
