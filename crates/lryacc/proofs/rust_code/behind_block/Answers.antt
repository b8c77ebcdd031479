use Rattle.std.proofs.Common.{◌+◌, ◌-◌, ◌^◌, min, subst, sym}
use Rattle.lryacc.specs.declared.rust_code.Half.TheVariants as half
use Rattle.lryacc.specs.declared.rust_code.Piece.TheVariants as piece
use Rattle.lryacc.specs.declared.rust_code.Within.TheVariants as within
use Rattle.lryacc.specs.RustCodeRead.{LeadsOn}
use Rattle.lryacc.proofs.RustCodeByBytes.{block-on, block-opens, slash-on, star-on}
use Rattle.lryacc.proofs.rust_code.behind_block.Goals as goal

pub returns-in-Star : goal.returns-in-Star
returns-in-Star c =
    subst (λ byte. LeadsOn byte (within.Piece (piece.Block c.args.levels c.args.half)) c.behind_end.result)
    (sym c.if-byte-eq47.true)
    (subst (λ kind. LeadsOn 47 (within.Piece (piece.Block c.args.levels kind)) c.behind_end.result) (sym c.in-Star.is)
    c.behind_end.ensures)

pub returns-in-Star-2 : goal.returns-in-Star-2
returns-in-Star-2 c =
    subst
    (λ kind. LeadsOn c.args.byte (within.Piece (piece.Block c.args.levels kind))
    (within.Piece (piece.Block c.args.levels c.half_of-next.result)))
    (sym c.in-Star.is) (star-on c.args.levels c.args.byte c.half_of-next.result c.if-byte-eq47.false c.half_of-next.ensures)

pub returns-in-Slash : goal.returns-in-Slash
returns-in-Slash c =
    subst
    (λ n. LeadsOn c.args.byte (within.Piece (piece.Block c.args.levels c.args.half)) (within.Piece (piece.Block n half.Nothing)))
    (sym c.saturating_add.ensures)
    (subst
    (λ kind. LeadsOn c.args.byte (within.Piece (piece.Block c.args.levels kind))
    (within.Piece (piece.Block (min (c.args.levels + 1) (2 ^ 64 - 1)) half.Nothing))) (sym c.in-Slash.is)
    (block-opens c.args.levels c.args.byte c.if-byte-eq42.true))

pub returns-in-Slash-2 : goal.returns-in-Slash-2
returns-in-Slash-2 c =
    subst
    (λ kind. LeadsOn c.args.byte (within.Piece (piece.Block c.args.levels kind))
    (within.Piece (piece.Block c.args.levels c.half_of-next.result)))
    (sym c.in-Slash.is) (slash-on c.args.levels c.args.byte c.half_of-next.result c.if-byte-eq42.false c.half_of-next.ensures)

pub returns-in-Nothing : goal.returns-in-Nothing
returns-in-Nothing c =
    subst
    (λ kind. LeadsOn c.args.byte (within.Piece (piece.Block c.args.levels kind))
    (within.Piece (piece.Block c.args.levels c.half_of-next.result)))
    (sym c.in-Nothing.is) (block-on c.args.levels c.args.byte c.half_of-next.result c.half_of-next.ensures)
