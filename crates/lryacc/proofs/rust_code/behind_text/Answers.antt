use Rattle.std.proofs.Common.{false, subst, sym}
use Rattle.lryacc.specs.declared.rust_code.Before.TheVariants as before
use Rattle.lryacc.specs.declared.rust_code.Piece.TheVariants as piece
use Rattle.lryacc.specs.declared.rust_code.Within.TheVariants as within
use Rattle.lryacc.specs.RustCodeRead.{LeadsOn}
use Rattle.lryacc.proofs.RustCodeByBytes.{text-closes, text-on, text-takes}
use Rattle.lryacc.proofs.rust_code.behind_text.Goals as goal

pub returns-then-is_taken : goal.returns-then-is_taken
returns-then-is_taken c =
    subst (λ taken. LeadsOn c.args.byte (within.Piece (piece.Text taken)) (within.Piece (piece.Text false)))
    (sym c.if-is_taken.true) (text-takes c.args.byte)

pub returns-then-byte-eq34 : goal.returns-then-byte-eq34
returns-then-byte-eq34 c =
    subst (λ taken. LeadsOn c.args.byte (within.Piece (piece.Text taken)) (within.Code before.Nothing))
    (sym c.if-is_taken.false) (text-closes c.args.byte c.if-byte-eq34.true)

pub returns : goal.returns
returns c =
    subst (λ taken. LeadsOn c.args.byte (within.Piece (piece.Text taken)) (within.Piece (piece.Text false)))
    (sym c.if-is_taken.false) (text-on c.args.byte c.if-byte-eq34.false c.if-byte-eq92.false)
