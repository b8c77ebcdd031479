use Rattle.std.proofs.Common.{◌≡◌, true, subst, sym, ◌∙◌, rules}
use Rattle.lryacc.specs.declared.rust_code.Before.TheVariants as before
use Rattle.lryacc.specs.declared.rust_code.Piece.TheVariants as piece
use Rattle.lryacc.specs.declared.rust_code.Within.TheVariants as within
use Rattle.lryacc.specs.RustCodeRead.{Stays}
use Rattle.lryacc.proofs.RustCodeByBytes.{name-stays}
use Rattle.lryacc.proofs.rust_code.behind_name.Goals as goal

pub returns-in-Piece-Quoted-true : goal.returns-in-Piece-Quoted-true
returns-in-Piece-Quoted-true c =
    let h0 = c.in-Piece-Quoted-true.is in
    let h1 = c.in-Piece-Quoted-true.field-0-is in
    let h2 = c.in-Piece-Quoted-true.field-0-0-is in
    let h3 = c.in-Piece-Quoted-true.field-0-0-test in
    let is : c.args.within ≡ within.Piece (piece.Quoted true) = search rules in
    subst (λ kind. Stays c.args.byte kind (within.Code before.Word)) (sym is)
    (name-stays c.args.byte c.if-byte-ne39.true (sym c.goes_on.ensures ∙ c.if-not-goes_on.true))
