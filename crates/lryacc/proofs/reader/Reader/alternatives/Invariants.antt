use Rattle.std.proofs.Common.{◌≡◌, ◌+◌, ◌-◌, ◌≤◌, vec_len}
use Rattle.lryacc.specs.AllBodies.{AreReadUpTo}
use Rattle.lryacc.specs.Bodies.{BeginsBody}
use Rattle.lryacc.specs.DeclarationsRead.{StatesDeclared}
use Rattle.lryacc.proofs.reader.Reader.alternatives.Given as goal

abbrev pub invariant-loop-turn : goal.invariant-loop-turn
invariant-loop-turn l = record {
  text : l.self.text.now ≡ l.initial.self.text.now;
  lexemes : l.self.lexemes.now ≡ l.initial.self.lexemes.now;
  dialect : l.self.dialect ≡ l.initial.self.dialect;
  faults : vec_len l.initial.self.contents.faults ≤ vec_len l.self.contents.faults;
  on : l._turn + l.initial.self.at ≤ l.self.at;
  declared : StatesDeclared l.initial.self l.self;
  begins : BeginsBody l.self l.rule l.mark;
  read : AreReadUpTo l.initial.self (l.initial.self.at - 1) → AreReadUpTo l.self (l.self.at - 1);
}
