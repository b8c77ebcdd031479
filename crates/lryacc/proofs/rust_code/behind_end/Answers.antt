use Rattle.std.proofs.Common.{refl}
use Rattle.lryacc.proofs.RustCodeByBytes.{block-closes, block-closes_inner}
use Rattle.lryacc.proofs.rust_code.behind_end.Goals as goal

pub returns-then-levels-le1 : goal.returns-then-levels-le1
returns-then-levels-le1 c = block-closes c.args.levels 47 refl c.if-levels-le1.true

pub returns : goal.returns
returns c = block-closes_inner c.args.levels 47 refl c.if-levels-le1.false
