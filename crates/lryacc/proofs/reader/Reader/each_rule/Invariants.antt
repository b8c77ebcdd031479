use Rattle.std.proofs.Common.{◌≤◌, vec_len}
use Rattle.lryacc.specs.AllBodies.{ReadsBodies}
use Rattle.lryacc.specs.Bodies.{IsWhole}
use Rattle.lryacc.specs.DeclarationsRead.{StatesDeclared}
use Rattle.lryacc.proofs.reader.Reader.each_rule.Given as goal

abbrev pub invariant-loop-turn : goal.invariant-loop-turn
invariant-loop-turn l = record {
  faults : vec_len l.initial.self.contents.faults ≤ vec_len l.self.contents.faults;
  read : IsWhole l.self → ReadsBodies l._turn l.initial.self l.self;
  declared : IsWhole l.self → StatesDeclared l.initial.self l.self;
}
