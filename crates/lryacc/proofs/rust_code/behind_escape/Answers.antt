use Rattle.std.proofs.Common.{subst, sym}
use Rattle.lryacc.specs.declared.rust_code.Before.TheVariants as before
use Rattle.lryacc.specs.declared.rust_code.Piece.TheVariants as piece
use Rattle.lryacc.specs.declared.rust_code.Within.TheVariants as within
use Rattle.lryacc.specs.RustCodeRead.{LeadsOn}
use Rattle.lryacc.proofs.RustCodeByBytes.{escape-closes}
use Rattle.lryacc.proofs.rust_code.behind_escape.Goals as goal

pub returns-then-byte-eq39 : goal.returns-then-byte-eq39
returns-then-byte-eq39 c =
    subst (λ taken. LeadsOn c.args.byte (within.Piece (piece.Escape taken)) (within.Code before.Nothing))
    (sym c.if-is_taken.false) (escape-closes c.args.byte c.if-byte-eq39.true)
