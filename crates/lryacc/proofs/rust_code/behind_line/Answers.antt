use Rattle.lryacc.proofs.RustCodeByBytes.{line-ends}
use Rattle.lryacc.proofs.rust_code.behind_line.Goals as goal

pub returns-then-byte-eq10 : goal.returns-then-byte-eq10
returns-then-byte-eq10 c = line-ends c.args.byte c.if-byte-eq10.true
