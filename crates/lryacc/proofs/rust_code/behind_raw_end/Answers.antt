use Rattle.lryacc.proofs.RustCodeByBytes.{raw_end-closes, raw_end-mark, raw_end-other}
use Rattle.lryacc.proofs.rust_code.behind_raw_end.Goals as goal

pub returns-then-byte-ne35 : goal.returns-then-byte-ne35
returns-then-byte-ne35 c =
    raw_end-other c.args.marks c.args.left c.args.byte c.behind_raw.result c.if-byte-ne35.true c.behind_raw.ensures

pub returns-then-left-le1 : goal.returns-then-left-le1
returns-then-left-le1 c = raw_end-closes c.args.marks c.args.left c.args.byte c.if-byte-ne35.false c.if-left-le1.true

pub returns : goal.returns
returns c = raw_end-mark c.args.marks c.args.left c.args.byte c.if-byte-ne35.false c.if-left-le1.false
