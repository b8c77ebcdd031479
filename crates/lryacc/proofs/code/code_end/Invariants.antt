use Rattle.lryacc.specs.CodeRead.{IsCodeUpTo}
use Rattle.lryacc.proofs.code.code_end.Given as goal

abbrev pub invariant-loop-at : goal.invariant-loop-at
invariant-loop-at l = IsCodeUpTo l.fn.ending l.text l.from l.at l.reader
