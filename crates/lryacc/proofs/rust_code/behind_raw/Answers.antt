use Rattle.lryacc.proofs.RustCodeByBytes.{raw-closes}
use Rattle.lryacc.proofs.rust_code.behind_raw.Goals as goal

pub returns-then-marks-eq0 : goal.returns-then-marks-eq0
returns-then-marks-eq0 c = raw-closes c.args.marks c.args.byte c.if-byte-ne34.false c.if-marks-eq0.true
