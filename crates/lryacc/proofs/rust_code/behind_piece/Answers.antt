use Rattle.std.proofs.Common.{subst, sym}
use Rattle.lryacc.specs.declared.rust_code.Within.TheVariants as within
use Rattle.lryacc.specs.RustCodeRead.{LeadsOn}
use Rattle.lryacc.proofs.rust_code.behind_piece.Goals as goal

pub returns-in-Text : goal.returns-in-Text
returns-in-Text c =
    subst (λ kind. LeadsOn c.args.byte (within.Piece kind) c.behind_text.result) (sym c.in-Text.is) c.behind_text.ensures

pub returns-in-Block : goal.returns-in-Block
returns-in-Block c =
    subst (λ kind. LeadsOn c.args.byte (within.Piece kind) c.behind_block.result) (sym c.in-Block.is) c.behind_block.ensures
