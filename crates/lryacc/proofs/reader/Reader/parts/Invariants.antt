use Rattle.std.proofs.Common.{◌≡◌, ◌≤◌, ℕ, ◌-◌, length}
use Rattle.lryacc.specs.Bodies.{IsBodyUpTo, IsSameFile, reach_over}
use Rattle.lryacc.specs.DeclarationsRead.{stated}
use Rattle.lryacc.proofs.reader.Reader.parts.Given as goal

abbrev pub invariant-loop-lexeme : goal.invariant-loop-lexeme
invariant-loop-lexeme l = record {
  file : IsSameFile l.initial.self l.self;
  parts : (from : ℕ) → IsBodyUpTo l.initial.self from l.initial.self.at l.initial.body
      → IsBodyUpTo l.initial.self from l.self.at l.body;
  on : l.initial.self.at ≤ l.self.at;
  kept : stated l.self ≡ stated l.initial.self;
  reach : l.body.span
      ≡ reach_over l.initial.self.lexemes.now l.initial.self.at l.initial.body.span (l.self.at - l.initial.self.at);
}

abbrev pub decreases-loop-lexeme : goal.decreases-loop-lexeme
decreases-loop-lexeme l = length l.initial.self.lexemes.now - l.self.at
