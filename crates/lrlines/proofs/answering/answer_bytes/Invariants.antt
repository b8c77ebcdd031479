use Rattle.std.proofs.Common.{◌≡◌, length, ◌++◌, IfSome}
use Rattle.lrlines.proofs.AnsweringBytes.{IsAnswering}
use Rattle.lrlines.proofs.answering.answer_bytes.Given as goal

abbrev pub invariant-loop-piece : goal.invariant-loop-piece
invariant-loop-piece g l = record {
  answering : IsAnswering (g.A.LineAnswers.answer l.answers)
      (g.W.LineWrite.written l.initial.writer) (g.W.LineWrite.written l.writer)
      (l.initial.line.items ++ l.bytes) l.line.items l.behind;
  prepared : IfSome l.prepared (g.A.LineAnswers.is_prepared l.answers);
  count : g.W.LineWrite.failures l.writer ≡ g.W.LineWrite.failures l.initial.writer;
}

abbrev pub decreases-loop-piece : goal.decreases-loop-piece
decreases-loop-piece g l = length l.behind
