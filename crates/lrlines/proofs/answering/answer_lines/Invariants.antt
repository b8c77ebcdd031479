use Rattle.std.proofs.Common.{◌≡◌, length, IfSome}
use Rattle.lrlines.proofs.ReadingLines.{IsReading}
use Rattle.lrlines.proofs.answering.answer_lines.Given as goal

abbrev pub invariant-loop : goal.invariant-loop
invariant-loop g l = record {
  reading : IsReading (g.A.LineAnswers.answer l.answers)
      (g.R.LineRead.left l.initial.reader) (g.R.LineRead.left l.reader)
      (g.W.LineWrite.written l.initial.writer) (g.W.LineWrite.written l.writer) l.line.items l.counter;
  prepared : IfSome l.prepared (g.A.LineAnswers.is_prepared l.answers);
  reader_count : g.R.LineRead.failures l.reader ≡ g.R.LineRead.failures l.initial.reader;
  writer_count : g.W.LineWrite.failures l.writer ≡ g.W.LineWrite.failures l.initial.writer;
  room : length l.buf ≡ 4096;
}
