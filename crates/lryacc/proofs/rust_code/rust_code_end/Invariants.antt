use Rattle.lryacc.specs.RustCodeRead.{IsRustCodeUpTo}
use Rattle.lryacc.proofs.rust_code.rust_code_end.Given as goal

abbrev pub invariant-loop-at : goal.invariant-loop-at
invariant-loop-at l = IsRustCodeUpTo l.text l.from l.at l.reader
