use Rattle.std.proofs.Common.{◌+◌, slice_index, refl, subst, sym, arith}
use Rattle.lryacc.specs.declared.rust_code.Within.TheVariants as within
use Rattle.lryacc.specs.RustCodeRead.{IsRustCodeUpTo, IsWithin}
use Rattle.lryacc.proofs.RustCodeByBytes.{goes_on-with}
use Rattle.lryacc.proofs.rust_code.RustReader.step.Goals as goal

pub returns-in-Code : goal.returns-in-Code
returns-in-Code c = λ from up.
    let text = c.args.text.now in
    let depth = c.args.self.depth in
    let stays = c.behind_name.ensures text from c.args.at depth refl up.is in
    c.behind_code.ensures text from refl
    (record { is = subst (IsWithin text from c.args.at depth) c.in-Code.is stays; depth = up.depth })

pub returns-in-Ok : goal.returns-in-Ok
returns-in-Ok c = λ from up.
    let text = c.args.text.now in
    let at = c.args.at in
    let depth = c.args.self.depth in
    let stays = c.behind_name.ensures text from at depth refl up.is in
    subst (IsRustCodeUpTo text from (at + 1)) (sym c.with.ensures)
    (goes_on-with text from at (slice_index text at) c.args.self.opened c.args.self (within.Piece c.in-Piece.piece)
    c.in-Ok.within (omega arith) refl c.in-Ok.ensures
    (record { is = subst (IsWithin text from at depth) c.in-Piece.is stays; depth = up.depth }))
