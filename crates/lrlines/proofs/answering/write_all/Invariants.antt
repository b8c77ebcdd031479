use Rattle.std.proofs.Common.{◌≡◌, length}
use Rattle.lrlines.proofs.KnownBytes.{IsWritingPart}
use Rattle.lrlines.proofs.answering.write_all.Given as goal

abbrev pub invariant-loop-behind : goal.invariant-loop-behind
invariant-loop-behind g l = record {
  writing : IsWritingPart
      (g.W.LineWrite.written l.initial.writer) (g.W.LineWrite.written l.writer) l.part l.behind;
  count : g.W.LineWrite.failures l.writer ≡ g.W.LineWrite.failures l.initial.writer;
}

abbrev pub decreases-loop-behind : goal.decreases-loop-behind
decreases-loop-behind g l = length l.behind
