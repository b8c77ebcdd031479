use Rattle.lryacc.proofs.RustCodeByBytes.{quoted-closes}
use Rattle.lryacc.proofs.rust_code.behind_quoted.Goals as goal

pub returns-then-byte-eq39 : goal.returns-then-byte-eq39
returns-then-byte-eq39 c = quoted-closes c.args.byte c.args.is_name c.if-byte-eq39.true
